-- A call that stops at an event that is too heavy keeps the records.
use Rattle.std.proofs.Common.{◌≡◌, ℕ, ◌+◌, ◌<◌, ◌≤◌, List, [], ◌∷◌, ◌++◌, Option, Some, false, refl, sym, ap, subst, ◌∙◌, arith, inl, inr, ◌⊎◌}
use Rattle.transfer_frames.specs.declared.frame.Frame.{Frame}
use Rattle.half_model.specs.declared.items.PeerIn.TheVariants as inputs
use Rattle.half_model.specs.PipeTurn as pipes
use Rattle.half_model.specs.PipeTurn.{PipeTurn, pipe_turn}
use Rattle.pair_model.specs.RingState.{RingState, IsRingOf}
use Rattle.pair_model.specs.Steps.{Here}
use Rattle.side_model.specs.declared.fault.ProxyFault.{ProxyFault}
use Rattle.side_model.specs.Books.{Book, MOST_WEIGHT, weight, mark_cost, marked_trail, grown, grow_all, closed, Fit}
use Rattle.wp_outside.specs.declared.pipe_items.PipeItem.{PipeItem}
use Rattle.wp_outside.specs.declared.pipe_items.PipeItem.TheVariants as pieces
use Rattle.side_model.specs.Calls.{Part}
use Rattle.side_model.specs.Due.{hear, next}
use Rattle.side_model.specs.Events.{Event, Fed, Handed, Lent, Up, Down, Came, Went, Gave, Asks, Told, Heard, Took, Grouped, Ended, Chose, Do, Rest}
use Rattle.side_model.specs.Follows.{Follows}
use Rattle.side_model.specs.Marks.{mark_of, mark_pipe}
use Rattle.side_model.specs.Records.{KeptRing, holds_more}
use Rattle.side_model.specs.Sound.{Admits}
use Rattle.side_model.specs.State.{Now}
use Rattle.side_model.specs.Steps.{step, fed_pipe}
use Rattle.side_model.specs.Trails.{TrailState, Keeps, step_all, StopsRecording, Begun, LIMIT_TRAIL}
use Rattle.side_model.proofs.Dues.{DueIn, InHear, InGroup, InTreat, InEnd, InChoose, due_in, frame_due, all_rest, hears_none, is_quiet, IsQuiet}
use Rattle.side_model.proofs.Parts.{SameProxy, same_part, part_at, FollowsOn, follows_part, MadeMore, made_more, same_room, acked_same}
use Rattle.side_model.proofs.Stopping.{lawful_stops}
use Rattle.side_model.proofs.TrailParts.{keeps_so, law_so, failed, NotRun, ran, Begins, same_ran}
use Rattle.side_model.proofs.TrailDone.{whole_weighs, fails_at_once, ring_of}

-- ---- one of the events is too heavy

-- the ring, where no more is recorded
ring_more : (at last t : Now) (book after : Book) (fault : Option ProxyFault) → Follows last after → MadeMore book after → after.trail.acknowledged ≡ book.trail.acknowledged → t.kept.ring ≡ last.kept.ring → (holds_more fault ≡ false → ⊥)
    → KeptRing book.trail.made book.trail.acknowledged fault t.kept.ring
ring_more at last t book after fault f m k e some =
    subst (λ (ring : RingState). KeptRing book.trail.made book.trail.acknowledged fault ring) (sym e) (record {
      further = m.more;
      ring_is = subst (λ (made : List Frame). IsRingOf made last.kept.ring) m.is f.ring;
      none = λ none. absurd (some none);
      known = λ other. sym f.acknowledged ∙ k;
    })

-- an event that hears a frame weighs nothing
heard_light : (frame : Frame) (event : Event) (s : Now) (total : ℕ) → event ≡ Heard frame → total ≤ MOST_WEIGHT → MOST_WEIGHT < total + mark_cost (mark_of event s) → ⊥
heard_light frame event s total e l h =
    let nothing : mark_cost (mark_of event s) ≡ 0 = ap (λ (v : Event). mark_cost (mark_of v s)) e in
    omega (arith, nothing)

heavy_quiet : (event : Event) (s : Now) (total : ℕ) → next s ≡ Do event → total ≤ MOST_WEIGHT → MOST_WEIGHT < total + mark_cost (mark_of event s) → hear s ≡ Rest
heavy_quiet event s total due l h = by_phase (due_in s event due)
  where
    by_phase : DueIn s event → hear s ≡ Rest
    by_phase (InHear d) = absurd (heard_light (frame_due s event d).frame event s total (frame_due s event d).is l h)
    by_phase (InGroup a d) = a
    by_phase (InTreat a c d) = a
    by_phase (InEnd a c f d) = a
    by_phase (InChoose a c f g d) = a

-- of the events from outside only an item for a pipe has weight of this kind, and it brings no frame to be heard
fed_here : (it : PipeTurn) (s : Now) → (fed_pipe it s).live.here ≡ s.live.here
fed_here pipes.Barred s = refl
fed_here (pipes.Drops tables) s = refl
fed_here (pipes.Makes frame tables) s = refl

outside_quiet : (event : Event) (s : Now) (total : ℕ) → Admits event s → hear s ≡ Rest → total ≤ MOST_WEIGHT → MOST_WEIGHT < total + mark_cost (mark_of event s) → hear (step event s) ≡ Rest
unfolding step
outside_quiet (Fed (inputs.Bytes bytes)) s total a q l h = absurd (omega arith)
outside_quiet (Fed (inputs.Handle handle)) s total a q l h = absurd (omega arith)
outside_quiet (Fed (inputs.Note note)) s total a q l h = absurd (omega arith)
outside_quiet (Fed (inputs.Pipe item)) s total a q l h =
    hears_none (fed_pipe (pipe_turn s.live.tables s.live.taking item) s) (subst (λ (here : Option Here). IsQuiet here) (sym (fed_here (pipe_turn s.live.tables s.live.taking item) s)) (is_quiet s q))
outside_quiet (Handed done) s total a q l h = absurd (omega arith)
outside_quiet Lent s total a q l h = absurd (omega arith)
outside_quiet (Up connection) s total a q l h = absurd (omega arith)
outside_quiet Down s total a q l h = absurd (omega arith)
outside_quiet (Came piece) s total a q l h = absurd (omega arith)
outside_quiet (Went n) s total a q l h = absurd (omega arith)
outside_quiet Gave s total a q l h = absurd (omega arith)
outside_quiet (Asks reason) s total a q l h = absurd (omega arith)
outside_quiet Told s total a q l h = absurd (omega arith)
outside_quiet (Heard frame) s total a q l h = absurd a
outside_quiet Took s total a q l h = absurd a
outside_quiet Grouped s total a q l h = absurd a
outside_quiet Ended s total a q l h = absurd a
outside_quiet Chose s total a q l h = absurd a

outside_acked : (event : Event) (s : Now) (book : Book) → Admits event s → (grown event s book).trail.acknowledged ≡ book.trail.acknowledged
outside_acked (Fed (inputs.Bytes bytes)) s book a = refl
outside_acked (Fed (inputs.Handle handle)) s book a = refl
outside_acked (Fed (inputs.Note note)) s book a = refl
outside_acked (Fed (inputs.Pipe item)) s book a = by_turn item (pipe_turn s.live.tables s.live.taking item)
  where
    by_turn : (item : PipeItem) (it : PipeTurn) → (marked_trail (mark_pipe item it) book.trail).acknowledged ≡ book.trail.acknowledged
    by_turn item pipes.Barred = refl
    by_turn (pieces.Bytes rid bytes) (pipes.Drops tables) = refl
    by_turn (pieces.End rid) (pipes.Drops tables) = refl
    by_turn (pieces.Shut number) (pipes.Drops tables) = refl
    by_turn item (pipes.Makes frame tables) = refl
outside_acked (Handed done) s book a = refl
outside_acked Lent s book a = refl
outside_acked (Up connection) s book a = refl
outside_acked Down s book a = refl
outside_acked (Came piece) s book a = refl
outside_acked (Went n) s book a = refl
outside_acked Gave s book a = refl
outside_acked (Asks reason) s book a = refl
outside_acked Told s book a = refl
outside_acked (Heard frame) s book a = absurd a
outside_acked Took s book a = absurd a
outside_acked Grouped s book a = absurd a
outside_acked Ended s book a = absurd a
outside_acked Chose s book a = absurd a

-- the event from outside
first_too_heavy : (event : Event) (old new : TrailState) → Begins old event → new.fault ≡ Some LIMIT_TRAIL → (d : StopsRecording event old new) → d.recorded ≡ [] → d.heavy_event ≡ event → Keeps new
first_too_heavy event old new b e d none same = by_run (ran event d.answer d.events old.now d.last b.runs.fault d.calls)
  where
    book : new.book ≡ closed old.book
    book = d.book ∙ ap (λ (es : List Event). grow_all es old.now (closed old.book)) none

    heavy : MOST_WEIGHT < weight (closed old.book).trail + mark_cost (mark_of event old.now)
    heavy = subst (λ (v : Event). MOST_WEIGHT < weight (closed old.book).trail + mark_cost (mark_of v old.now)) same
        (subst (λ (es : List Event). MOST_WEIGHT < weight (closed old.book).trail + mark_cost (mark_of d.heavy_event (step_all es old.now))) none
        (subst (λ (x : Book). MOST_WEIGHT < weight x.trail + mark_cost (mark_of d.heavy_event (step_all d.recorded old.now))) (d.book ∙ ap (λ (es : List Event). grow_all es old.now (closed old.book)) none) d.heavy))

    by_run : Begun event d.events old.now d.last ⊎ NotRun old.now d.events d.last → Keeps new
    by_run (inl r) =
        let quiet : hear (step event old.now) ≡ Rest = outside_quiet event old.now (weight (closed old.book).trail) b.admits (all_rest old.now b.runs.rests).hears b.weighs heavy in
        let begun : Book = grown event old.now (closed old.book) in
        let after : FollowsOn r.at (grow_all d.events (step event old.now) begun) = follows_part (step event old.now) r.at begun d.events b.after r.part in
        let acked : (grow_all d.events (step event old.now) begun).trail.acknowledged ≡ (closed old.book).trail.acknowledged =
        acked_same (step event old.now) r.at begun d.events quiet r.part ∙ outside_acked event old.now (closed old.book) b.admits in
        let proxy : (d.last.side ≡ old.now.side) × (d.last.token ≡ old.now.token) = same_ran r in
        fails_at_once old event LIMIT_TRAIL new b tt e (ap (λ (s : Now). s.side) d.now ∙ proxy.0) (ap (λ (s : Now). s.token) d.now ∙ proxy.1)
        (ring_more old.now r.at new.now (closed old.book) (grow_all d.events (step event old.now) begun) (Some LIMIT_TRAIL) after.follows (made_more (event ∷ d.events) old.now (closed old.book)) acked
        (ap (λ (s : Now). s.kept.ring) d.now ∙ ap (λ kept. kept.ring) r.kept) (λ never. cc)) book
    by_run (inr n) =
        fails_at_once old event LIMIT_TRAIL new b tt e (ap (λ (s : Now). s.side) d.now ∙ n.side) (ap (λ (s : Now). s.token) d.now ∙ n.token)
        (ring_of old.now new.now (closed old.book) (Some LIMIT_TRAIL) b.follows.follows (ap (λ (s : Now). s.kept.ring) d.now ∙ ap (λ kept. kept.ring) n.kept)) book

-- one of those that were due
later_too_heavy : (event : Event) (old new : TrailState) → Begins old event → new.fault ≡ Some LIMIT_TRAIL → (d : StopsRecording event old new) → (recorded : List Event) → d.recorded ≡ event ∷ recorded
    → d.events ≡ recorded ++ d.heavy_event ∷ d.more → Keeps new
later_too_heavy event old new b e d recorded same row = by_run (ran event d.answer d.events old.now d.last b.runs.fault d.calls)
  where
    nothing : (xs : List Event) (y : Event) (ys : List Event) → xs ++ y ∷ ys ≡ [] → ⊥
    nothing [] y ys k = cc
    nothing (x ∷ xs) y ys k = cc

    by_run : Begun event d.events old.now d.last ⊎ NotRun old.now d.events d.last → Keeps new
    by_run (inr n) = absurd (nothing recorded d.heavy_event d.more (sym row ∙ n.none))
    by_run (inl r) =
        let begun : Now = step event old.now in
        let first : Book = grown event old.now (closed old.book) in
        let split : Part begun recorded (step_all recorded begun) × Part (step_all recorded begun) (d.heavy_event ∷ d.more) r.at =
        part_at begun r.at recorded (d.heavy_event ∷ d.more) (subst (λ (es : List Event). Part begun es r.at) row r.part) in
        let at : Now = step_all recorded begun in
        let book : Book = grow_all recorded begun first in
        let is_book : new.book ≡ book = d.book ∙ ap (λ (es : List Event). grow_all es old.now (closed old.book)) same in
        let there : FollowsOn at book = follows_part begun at first recorded b.after split.0 in
        let fit : Fit (event ∷ recorded) old.now (closed old.book) = subst (λ (es : List Event). Fit es old.now (closed old.book)) same d.fit in
        let weighs : weight book.trail ≤ MOST_WEIGHT = whole_weighs old event b recorded at split.0 fit in
        let heavy : MOST_WEIGHT < weight book.trail + mark_cost (mark_of d.heavy_event at) =
        subst (λ (es : List Event). MOST_WEIGHT < weight book.trail + mark_cost (mark_of d.heavy_event (step_all es old.now))) same
        (subst (λ (x : Book). MOST_WEIGHT < weight x.trail + mark_cost (mark_of d.heavy_event (step_all d.recorded old.now))) is_book d.heavy) in
        let quiet : hear at ≡ Rest = heavy_quiet d.heavy_event at (weight book.trail) split.1.0 weighs heavy in
        let last : FollowsOn r.at (grow_all (d.heavy_event ∷ d.more) at book) = follows_part at r.at book (d.heavy_event ∷ d.more) there split.1 in
        let proxy : (d.last.side ≡ at.side) × (d.last.token ≡ at.token) = (let p : SameProxy at r.at = same_part at r.at (d.heavy_event ∷ d.more) split.1 in (r.side ∙ p.side, r.token ∙ p.token)) in
        let room : book.trail.lines.room ≡ 0 = same_room (event ∷ recorded) old.now (closed old.book) in
        keeps_so new (record { now = new.now; book = book; fault = Some LIMIT_TRAIL }) refl is_book e
        (failed (record { now = new.now; book = book; fault = Some LIMIT_TRAIL }) LIMIT_TRAIL refl
        (law_so at new.now book (Some LIMIT_TRAIL) (ap (λ (s : Now). s.side) d.now ∙ proxy.0) (ap (λ (s : Now). s.token) d.now ∙ proxy.1) (lawful_stops.own at book LIMIT_TRAIL there.follows weighs quiet tt))
        (ring_more at r.at new.now book (grow_all (d.heavy_event ∷ d.more) at book) (Some LIMIT_TRAIL) last.follows (made_more (d.heavy_event ∷ d.more) at book) (acked_same at r.at book (d.heavy_event ∷ d.more) quiet split.1)
        (ap (λ (s : Now). s.kept.ring) d.now ∙ ap (λ kept. kept.ring) r.kept) (λ never. cc)) (omega (arith, room, weighs)))

pub stops_keeps : (event : Event) (fault : ProxyFault) (old new : TrailState) → Begins old event → fault ≡ LIMIT_TRAIL → new.fault ≡ Some fault → StopsRecording event old new → Keeps new
stops_keeps event fault old new b f e d = by_recorded d.recorded refl d.row
  where
    known : new.fault ≡ Some LIMIT_TRAIL
    known = e ∙ ap (λ (x : ProxyFault). Some x) f

    by_recorded : (recorded : List Event) → d.recorded ≡ recorded → event ∷ d.events ≡ recorded ++ d.heavy_event ∷ d.more → Keeps new
    by_recorded [] k row = first_too_heavy event old new b known d k (let same : d.heavy_event ≡ event = cc in same)
    by_recorded (x ∷ recorded) k row =
        let same : x ≡ event = cc in
        let rest : d.events ≡ recorded ++ d.heavy_event ∷ d.more = cc in
        later_too_heavy event old new b known d recorded (k ∙ ap (λ v. v ∷ recorded) same) rest
