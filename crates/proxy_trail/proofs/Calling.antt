-- What each call of a proxy with its records begins with, and what it keeps.
use Rattle.std.proofs.lemmas.List.{length-map}
use Rattle.std.proofs.lemmas.List.Sums.{sum_by-cons}
use Rattle.std.proofs.Common.{◌≡◌, ℕ, ◌+◌, ◌*◌, ◌<◌, ◌≤◌, ◌^◌, List, [], ◌∷◌, ◌++◌, length, map, drop, Option, Some, None, Result, Ok, Err, Bool, true, false, refl, sym, ap, subst, ◌∙◌, arith, inl, inr, ◌⊎◌, length-drop}
use Rattle.std.specs.List.{AllByRecursion}
use Rattle.std.specs.Option.{MatchOption}
use Rattle.std.specs.Prelude.{is_some, sum_by, option_map}
use Rattle.transfer_frames.specs.declared.frame.Frame.{Frame}
use Rattle.transfer_frames.specs.Grammar.{spelling, IsFrame}
use Rattle.half_model.specs.declared.items.PeerIn.{PeerIn}
use Rattle.half_model.specs.declared.items.PeerIn.TheVariants as inputs
use Rattle.half_model.specs.Jobs as jobs
use Rattle.half_model.specs.PipeTurn as pipes
use Rattle.half_model.specs.PipeTurn.{PipeTurn, pipe_turn}
use Rattle.pair_model.specs.Lines.{Line}
use Rattle.pair_model.specs.RingState.{RingState, ring_made, ring_at, IsRingOf}
use Rattle.pair_model.specs.Steps.{Here, chosen, here_fed}
use Rattle.pair_model.proofs.Rows.{spelling_long}
use Rattle.side_model.specs.declared.fault.ProxyFault.{ProxyFault}
use Rattle.half_model.specs.declared.notes.Noted.{Noted}
use Rattle.side_model.specs.Books.{Book, TrailRecord, MOST_WEIGHT, weight, spelled, line_cost, rows_after, grown, closed}
use Rattle.side_model.specs.Calls.{Part, Row, CallsBarred, CallsAfter, Calls, barred}
use Rattle.side_model.specs.Events.{Event, Fed, Handed, Up, Came, Asks, Heard, Took, Grouped, Ended, Chose, Do}
use Rattle.side_model.specs.Follows.{Follows}
use Rattle.side_model.specs.Marks.{mark_of, notes_of}
use Rattle.side_model.specs.RowLaws.{IsWork}
use Rattle.side_model.specs.Shows as shows
use Rattle.side_model.specs.Shows.{unless_fault}
use Rattle.side_model.specs.Sound.{Admits}
use Rattle.side_model.specs.State.{Now, KeptPart}
use Rattle.side_model.specs.Steps.{step, fed_pipe, here_heard}
use Rattle.side_model.specs.Trails.{TrailState, with_notes, RunsOn, Keeps, Begun, Done, RunsTrail, TrailAfter, TrailCalls}
use Rattle.side_model.proofs.Parts.{FollowsOn}
use Rattle.side_model.proofs.Quiets.{here_worked}
use Rattle.side_model.proofs.Sounds.{all_append}
use Rattle.side_model.proofs.TrailKeeps.{calls_keep}
use Rattle.side_model.proofs.TrailParts.{NotRun, ran, Begins, begins, same_weight}
use Rattle.trail_records.specs.Noting.{IsNote, with_lines, with_piece, with_line}
use Rattle.proxy_trail.specs.Kept.{IsKept, state_of, wants_peer}
use Rattle.proxy_trail.specs.Recording.{Settles, Records, ended_by, fault_in}
use Rattle.proxy_trail.proofs.GoodNotes.{good_event, good_along}
use Rattle.proxy_trail.proofs.NoteRows.{Inner, Hears, Works, Chooses, inner, notes_along}
use Rattle.proxy_trail.proofs.Quietly.{IsBrought}
use Rattle.proxy_trail.proofs.Settling.{begun, Lines, SameLines, LinesAlone, Context, notes_are, settled}

-- ---- few frames

each_weighs : (frames : List Frame) → length frames ≤ sum_by spelled frames
each_weighs [] = omega arith
each_weighs (f ∷ fs) = omega (arith, each_weighs fs, spelling_long f, sum_by-cons spelled f fs)

made_few : (trail : TrailRecord) → length trail.made ≤ weight trail
unfolding weight
made_few trail = omega (arith, each_weighs trail.made)

ring_counts : (made : List Frame) (ring : RingState) → IsRingOf made ring → ring_made ring ≡ length made
ring_counts made ring r =
    omega (arith, r.within, ap length r.frames_are, length-map (drop ring.acknowledged made) spelling, length-drop ring.acknowledged made)

pub few_made : (t : TrailState) → Keeps t → t.fault ≡ None → ring_made t.now.kept.ring < 2 ^ 59
few_made t k none =
    let r : RunsOn t = k.runs none in
    omega (arith, ring_counts t.book.trail.made t.now.kept.ring r.follows.ring, made_few t.book.trail, k.weighs)

-- ---- what a call begins with

light_begun : (old : TrailState) → Keeps old → weight (closed old.book).trail ≤ MOST_WEIGHT
light_begun old k = omega (arith, same_weight 0 old.book, k.weighs)

pub fed_begins : (item : PeerIn) (old : TrailState) → Keeps old → old.fault ≡ None → Admits (Fed item) old.now → Context (Fed item) old
fed_begins item old k none a =
    record { begins = begins old (Fed item) none k a; none = none; brought = tt; lines = SameLines refl; weighs = omega arith; light = light_begun old k }

pub handed_begins : (done : jobs.Done) (old : TrailState) → Keeps old → old.fault ≡ None → Admits (Handed done) old.now → Context (Handed done) old
handed_begins done old k none a =
    record { begins = begins old (Handed done) none k a; none = none; brought = tt; lines = SameLines refl; weighs = omega arith; light = light_begun old k }

pub asked_begins : (reason : ℕ) (old : TrailState) → Keeps old → old.fault ≡ None → Admits (Asks reason) old.now → Context (Asks reason) old
asked_begins reason old k none a =
    record { begins = begins old (Asks reason) none k a; none = none; brought = tt; lines = SameLines refl; weighs = omega arith; light = light_begun old k }

-- ---- what was noted is good

pub good_notes : (event : Event) (answer : Result Unit ProxyFault) (old : TrailState) (x : Context event old) (events : List Event) (last : Now) → Calls event answer events old.now last → AllByRecursion IsNote last.kept.notes
good_notes event answer old x events last calls = by_run (ran event answer events old.now last x.begins.runs.fault calls)
  where
    by_run : Begun event events old.now last ⊎ NotRun old.now events last → AllByRecursion IsNote last.kept.notes
    by_run (inl r) =
        subst (λ (ns : List Noted). AllByRecursion IsNote ns) (sym (ap (λ (kept : KeptPart). kept.notes) r.kept ∙ notes_are event old x events r.at r.part))
        (all_append IsNote (notes_of (mark_of event old.now)) (notes_along events (step event old.now)) (good_event event old.now (closed old.book) x.begins.after)
        (good_along (step event old.now) r.at events (grown event old.now (closed old.book)) x.begins.after r.part))
    by_run (inr n) = subst (λ (ns : List Noted). AllByRecursion IsNote ns) (sym (ap (λ (kept : KeptPart). kept.notes) n.kept ∙ x.begins.runs.notes)) tt

-- ---- whether a connection is up

pub up_changed : (change : Here → Here) (here : Option Here) → is_some (option_map change here) ≡ is_some here
up_changed change None = refl
up_changed change (Some here) = refl

up_heard : (frame : Frame) (s : Now) → is_some (step (Heard frame) s).live.here ≡ is_some s.live.here
unfolding step
up_heard frame s = up_changed (here_heard frame) s.live.here

up_chose : (s : Now) → is_some (step Chose s).live.here ≡ is_some s.live.here
unfolding step
up_chose s = up_changed (λ here. chosen s.kept.accepted (ring_at here.next s.kept.ring) here) s.live.here

up_inner : (s : Now) (event : Event) → Inner s event → is_some (step event s).live.here ≡ is_some s.live.here
up_inner s event (Hears frame is) = ap (λ (v : Event). is_some (step v s).live.here) is ∙ up_heard frame s
up_inner s event (Works q w) = ap is_some (here_worked event s w)
up_inner s event (Chooses q is) = ap (λ (v : Event). is_some (step v s).live.here) is ∙ up_chose s

pub up_part : (s t : Now) (events : List Event) → Part s events t → is_some t.live.here ≡ is_some s.live.here
up_part s t [] p = ap (λ (u : Now). is_some u.live.here) p
up_part s t (x ∷ xs) p = up_part (step x s) t xs p.1 ∙ up_inner s x (inner s x p.0)

-- what the event from outside makes of it
abbrev pub up_after : Event → Bool → Bool
up_after (Up connection) up = true
up_after event up = up

fed_up : (it : PipeTurn) (s : Now) → is_some (fed_pipe it s).live.here ≡ is_some s.live.here
fed_up pipes.Barred s = refl
fed_up (pipes.Drops tables) s = refl
fed_up (pipes.Makes frame tables) s = refl

up_brought : (event : Event) (s : Now) → IsBrought event → is_some (step event s).live.here ≡ up_after event (is_some s.live.here)
unfolding step
up_brought (Fed (inputs.Bytes bytes)) s b = refl
up_brought (Fed (inputs.Handle handle)) s b = refl
up_brought (Fed (inputs.Note note)) s b = refl
up_brought (Fed (inputs.Pipe item)) s b = fed_up (pipe_turn s.live.tables s.live.taking item) s
up_brought (Handed done) s b = refl
up_brought (Up connection) s b = refl
up_brought (Came piece) s b = up_changed (here_fed piece) s.live.here
up_brought (Asks reason) s b = refl
up_brought event s b = absurd b

ok_part : (event : Event) (events : List Event) (old last : Now) → old.fault ≡ None → Calls event (Ok tt) events old last → Part (step event old) events last
ok_part event events old last none calls = by_fault old.fault none calls
  where
    by_barred : (bar : Option ProxyFault) → CallsBarred bar event (Ok tt) events old last → Part (step event old) events last
    by_barred None r = r.0
    by_barred (Some fault) r = absurd (let never : Ok tt ≡ Err fault = r.answers in cc)

    by_fault : (fault : Option ProxyFault) → fault ≡ None → CallsAfter fault event (Ok tt) events old last → Part (step event old) events last
    by_fault None e r = by_barred (barred event old) r
    by_fault (Some fault) e r = absurd cc

-- ---- what a call keeps

pub call_keeps : (event : Event) (result : Result Unit ProxyFault) (old new : TrailState) (up : Bool) → Keeps old → old.fault ≡ None → Admits event old.now → IsBrought event → up ≡ is_some old.now.live.here
    → TrailCalls event result old new → IsKept (up_after event up) new
call_keeps event result old new up k none a b e calls = record {
  keeps = calls_keep event result old new k a calls;
  here = λ goes. by_after goes old.fault none calls;
}
  where
    by_result : new.fault ≡ None → (result : Result Unit ProxyFault) → RunsTrail event result old new → up_after event up ≡ is_some new.now.live.here
    by_result goes (Ok done) d =
        ap (up_after event) e ∙ sym (up_brought event old.now b) ∙ sym (up_part (step event old.now) d.last d.events (ok_part event d.events old.now d.last (k.runs none).fault d.calls))
        ∙ sym (ap (λ (s : Now). is_some s.live.here) d.now)
    by_result goes (Err fault) d = absurd (let never : Some fault ≡ None = sym d.fault_is ∙ goes in cc)

    by_after : new.fault ≡ None → (fault : Option ProxyFault) → fault ≡ None → TrailAfter fault event result old new → up_after event up ≡ is_some new.now.live.here
    by_after goes None none d = by_result goes result d
    by_after goes (Some fault) none d = absurd cc

-- ---- a call whose notes are recorded

pub record Answered (event : Event) (result : Result Unit ProxyFault) (old : TrailState) (up : Bool) (now : Now) (book : Book) (fault : Option ProxyFault) : Type 0 where
  pub calls : TrailCalls event result old (state_of now book fault)
  pub kept : IsKept (up_after event up) (state_of now book fault)

pub answered : (event : Event) (answer result : Result Unit ProxyFault) (old : TrailState) (up : Bool) (last now : Now) (before book : Book) (fault : Option ProxyFault) → Context event old → Keeps old → Admits event old.now
    → up ≡ is_some old.now.live.here → (events : List Event) × Calls event answer events old.now last → before ≡ begun event old → Settles answer result last now before book → fault ≡ fault_in result
    → Answered event result old up now book fault
answered event answer result old up last now before book fault x k a e does b s f =
    let calls : TrailCalls event (ended_by answer s.recorded) old (state_of now book (fault_in (ended_by answer s.recorded))) =
    settled event answer s.recorded old x does.0 last now book does.1 (subst (λ (start : Book). Records s.recorded last now start book) b s.records) in
    let known : TrailCalls event result old (state_of now book fault) =
    subst (λ (g : Option ProxyFault). TrailCalls event result old (state_of now book g)) (sym f)
    (subst (λ (r : Result Unit ProxyFault). TrailCalls event r old (state_of now book (fault_in r))) (sym s.result_is) calls) in
    record { calls = known; kept = call_keeps event result old (state_of now book fault) up k x.none a x.brought e known }

-- it takes from its peer, as its proxy does
pub wants_now : (t : TrailState) → t.fault ≡ None → wants_peer t ≡ true → shows.wants_peer t.now ≡ true
wants_now t none e = sym (ap (λ (fault : Option ProxyFault). unless_fault fault (shows.wants_peer t.now) false) none) ∙ e
