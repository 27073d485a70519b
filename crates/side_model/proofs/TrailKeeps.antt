-- Each call of a proxy with its records keeps what they keep.
use Rattle.std.proofs.Common.{◌≡◌, ℕ, ◌+◌, ◌≤◌, List, [], ◌∷◌, ◌++◌, Option, Some, None, Result, Ok, Err, length, refl, sym, ap, subst, ◌∙◌, arith, inl, inr, ◌⊎◌}
use Rattle.wp_outside.specs.declared.kinds.Side.{Side}
use Rattle.transfer_frames.specs.declared.frame.Frame.{Frame}
use Rattle.pair_model.specs.RingState.{RingState, IsRingOf}
use Rattle.pair_model.specs.Steps.{Here}
use Rattle.side_model.specs.declared.fault.ProxyFault.{ProxyFault}
use Rattle.side_model.specs.declared.fault.ProxyFault.TheVariants as faults
use Rattle.side_model.specs.declared.fault.ProxyFault.TheVariants.{Memory}
use Rattle.side_model.specs.Books.{Book, MOST_WEIGHT, weight, cost, cost_written, grown, grow_all, closed, Fit}
use Rattle.side_model.specs.Calls.{Part}
use Rattle.side_model.specs.Due.{next}
use Rattle.side_model.specs.Events.{Event, Lent, Down, Went, Gave, Chose, Rest}
use Rattle.side_model.specs.FollowLaws.{IsOwn}
use Rattle.side_model.specs.Records.{Law, KeptRing, IndexIs}
use Rattle.side_model.specs.Shows.{front_of, front_here, unless_fault}
use Rattle.side_model.specs.RowLaws.{AtMostChose}
use Rattle.side_model.specs.Sound.{Admits}
use Rattle.side_model.specs.State.{Now}
use Rattle.side_model.specs.Steps.{step}
use Rattle.side_model.specs.Trails.{TrailState, RunsOn, Keeps, Begun, LacksMemory, FailsSo, HeavyAtOnce, HeavyThen, Failed, FailedAtOnce, NoMemory, RunsTrail, TrailAfter, trail_step, lent_room, NotLent, RunsLends, LendsAfter}
use Rattle.side_model.specs.TrailLaws.{CallsKeep, StepsKeep, SendsKeep, LendsKeep}
use Rattle.side_model.proofs.Calms.{still_rests, went_then_chooses}
use Rattle.side_model.proofs.Parts.{SameProxy, same_then, same_step, same_part, FollowsOn, follows_part, MadeMore, made_more, same_room}
use Rattle.side_model.proofs.Stopping.{lawful_stops}
use Rattle.side_model.proofs.Weighing.{weight_grows}
use Rattle.side_model.proofs.TrailParts.{follows_room, same_weight, keeps_so, law_so, failed, runs_on, NotRun, ran, Begins, begins, same_ran}
use Rattle.side_model.proofs.TrailDone.{done_keeps, fails_at_once, ring_of, at_once_keeps, heavy_keeps, fails_keeps}
use Rattle.side_model.proofs.TrailHeavy.{stops_keeps}

-- ---- memory for the records runs out

memory_keeps : (event : Event) (fault : ProxyFault) (old new : TrailState) → Begins old event → new.fault ≡ Some fault → LacksMemory event fault old new → Keeps new
memory_keeps event fault old new b e d = by_first d.first (ran event d.answer d.events old.now d.last b.runs.fault d.calls)
  where
    known : new.fault ≡ Some Memory
    known = e ∙ ap (λ (x : ProxyFault). Some x) d.memory

    ahead : (made : List Frame) (acknowledged : ℕ) (more : List Frame) (ring : RingState) → IsRingOf (made ++ more) ring → KeptRing made acknowledged (Some Memory) ring
    ahead made acknowledged more ring r = record { further = more; ring_is = r; none = λ never. absurd cc; known = λ other. absurd (other refl) }

    ring_at : (at last : Now) (book : Book) (events : List Event) → FollowsOn at book → Part at events last → (t : Now) → t.kept.ring ≡ last.kept.ring → KeptRing book.trail.made book.trail.acknowledged (Some Memory) t.kept.ring
    ring_at at last book events f p t k =
        let after : FollowsOn last (grow_all events at book) = follows_part at last book events f p in
        let m : MadeMore book (grow_all events at book) = made_more events at book in
        subst (λ (ring : RingState). KeptRing book.trail.made book.trail.acknowledged (Some Memory) ring) (sym k)
        (ahead book.trail.made book.trail.acknowledged m.more last.kept.ring (subst (λ (made : List Frame). IsRingOf made last.kept.ring) m.is after.follows.ring))

    -- from the old state on
    ring_old : Begun event d.events old.now d.last → KeptRing (closed old.book).trail.made (closed old.book).trail.acknowledged (Some Memory) new.now.kept.ring
    ring_old r =
        let begun : Book = grown event old.now (closed old.book) in
        let after : FollowsOn r.at (grow_all d.events (step event old.now) begun) = follows_part (step event old.now) r.at begun d.events b.after r.part in
        let m : MadeMore (closed old.book) (grow_all (event ∷ d.events) old.now (closed old.book)) = made_more (event ∷ d.events) old.now (closed old.book) in
        subst (λ (ring : RingState). KeptRing (closed old.book).trail.made (closed old.book).trail.acknowledged (Some Memory) ring) (sym (ap (λ (s : Now). s.kept.ring) d.now ∙ ap (λ kept. kept.ring) r.kept))
        (ahead (closed old.book).trail.made (closed old.book).trail.acknowledged m.more r.at.kept.ring (subst (λ (made : List Frame). IsRingOf made r.at.kept.ring) m.is after.follows.ring))

    by_first : (d.recorded ≡ []) ⊎ ((d.recorded ≡ event ∷ []) × Begun event d.events old.now d.last) → Begun event d.events old.now d.last ⊎ NotRun old.now d.events d.last → Keeps new
    by_first (inl none) (inl r) =
        let proxy : (d.last.side ≡ old.now.side) × (d.last.token ≡ old.now.token) = same_ran r in
        fails_at_once old event Memory new b tt known (ap (λ (s : Now). s.side) d.now ∙ proxy.0) (ap (λ (s : Now). s.token) d.now ∙ proxy.1) (ring_old r)
        (d.book ∙ ap (λ (es : List Event). grow_all es old.now (closed old.book)) none)
    by_first (inl none) (inr n) =
        fails_at_once old event Memory new b tt known (ap (λ (s : Now). s.side) d.now ∙ n.side) (ap (λ (s : Now). s.token) d.now ∙ n.token)
        (ring_of old.now new.now (closed old.book) (Some Memory) b.follows.follows (ap (λ (s : Now). s.kept.ring) d.now ∙ ap (λ kept. kept.ring) n.kept))
        (d.book ∙ ap (λ (es : List Event). grow_all es old.now (closed old.book)) none)
    by_first (inr (one, r)) other =
        let begun : Now = step event old.now in
        let book : Book = grown event old.now (closed old.book) in
        let is_book : new.book ≡ book = d.book ∙ ap (λ (es : List Event). grow_all es old.now (closed old.book)) one in
        let fit : Fit (event ∷ []) old.now (closed old.book) = subst (λ (es : List Event). Fit es old.now (closed old.book)) one d.fit in
        let weighs : weight book.trail ≤ MOST_WEIGHT = omega (arith, weight_grows event old.now (closed old.book) b.follows.follows, fit.0) in
        let proxy : SameProxy begun r.at = same_part begun r.at d.events r.part in
        let room : book.trail.lines.room ≡ 0 = same_room (event ∷ []) old.now (closed old.book) in
        keeps_so new (record { now = new.now; book = book; fault = Some Memory }) refl is_book known
        (failed (record { now = new.now; book = book; fault = Some Memory }) Memory refl
        (law_so begun new.now book (Some Memory) (ap (λ (s : Now). s.side) d.now ∙ r.side ∙ proxy.side) (ap (λ (s : Now). s.token) d.now ∙ r.token ∙ proxy.token) (lawful_stops.memory begun book b.after.follows weighs))
        (ring_at begun r.at book d.events b.after r.part new.now (ap (λ (s : Now). s.kept.ring) d.now ∙ ap (λ kept. kept.ring) r.kept)) (omega (arith, room, weighs)))

-- ---- all of it

fails_so : (event : Event) (fault : ProxyFault) (old new : TrailState) → Begins old event → new.fault ≡ Some fault → FailsSo event fault old new → Keeps new
fails_so event fault old new b e (HeavyAtOnce f d) = heavy_keeps event fault old new b f e d
fails_so event fault old new b e (HeavyThen f d) = stops_keeps event fault old new b f e d
fails_so event fault old new b e (Failed d) = fails_keeps event fault old new b e d
fails_so event fault old new b e (FailedAtOnce d) = at_once_keeps event fault old new b e d
fails_so event fault old new b e (NoMemory d) = memory_keeps event fault old new b e d

pub calls_keep : CallsKeep
calls_keep event result old new k a calls = by_fault old.fault refl calls
  where
    by_result : (result : Result Unit ProxyFault) → RunsTrail event result old new → old.fault ≡ None → Keeps new
    by_result (Ok done) d none = done_keeps event old new none k a d
    by_result (Err fault) d none = fails_so event fault old new (begins old event none k a) d.fault_is d.so

    by_fault : (fault : Option ProxyFault) → old.fault ≡ fault → TrailAfter fault event result old new → Keeps new
    by_fault None none d = by_result result d none
    by_fault (Some fault) known d = subst (λ (t : TrailState). Keeps t) (sym d.same) k

-- ---- events that nothing follows

record Light (event : Event) (s : Now) (book : Book) : Type 0 where
  admits : Admits event s
  rests : next (step event s) ≡ Rest
  notes : (step event s).kept.notes ≡ s.kept.notes
  nothing : cost event s ≡ 0

light : (event : Event) (s : Now) (book : Book) → (event ≡ Down) ⊎ ((event ≡ Gave) ⊎ (event ≡ Lent)) → next s ≡ Rest → Light event s book
unfolding step
light event s book (inl e) r = subst (λ (v : Event). Light v s book) (sym e) (record { admits = tt; rests = still_rests.down s r; notes = refl; nothing = refl })
light event s book (inr (inl e)) r = subst (λ (v : Event). Light v s book) (sym e) (record { admits = tt; rests = still_rests.gave s r; notes = refl; nothing = refl })
light event s book (inr (inr e)) r = subst (λ (v : Event). Light v s book) (sym e) (record { admits = tt; rests = still_rests.lent s r; notes = refl; nothing = refl })

pub steps_keep : StepsKeep
steps_keep event old which none k =
    let r : RunsOn old = k.runs none in
    let l : Light event old.now old.book = light event old.now old.book which r.rests in
    let b : Begins old event = begins old event none k l.admits in
    keeps_so (trail_step event old) (record { now = step event old.now; book = grown event old.now (closed old.book); fault = None }) refl refl none
    (runs_on (step event old.now) (grown event old.now (closed old.book)) b.after l.rests ((same_step event old.now).fault ∙ r.fault) (l.notes ∙ r.notes) (omega arith)
    (omega (arith, weight_grows event old.now (closed old.book) b.follows.follows, l.nothing, b.weighs)))

-- ---- bytes that were lent are sent

fault_front : (s : Now) → s.fault ≡ None → front_of s ≡ front_here s.live.here
fault_front s e = ap (λ (fault : Option ProxyFault). unless_fault fault (front_here s.live.here) []) e

went_cost : (n : ℕ) (here : Option Here) → cost_written n here ≤ n
went_cost n None = omega arith
went_cost n (Some here) = omega arith

-- what a choice adds
record Behind (s t : Now) (book : Book) (events : List Event) : Type 0 where
  same_book : grow_all events s book ≡ book
  notes : t.kept.notes ≡ s.kept.notes

behind : (s t : Now) (book : Book) (events : List Event) → Part s events t → AtMostChose events → Behind s t book events
unfolding step
behind s t book events p (inl e) =
    let same : t ≡ s = subst (λ (es : List Event). Part s es t) e p in
    record { same_book = ap (λ (es : List Event). grow_all es s book) e; notes = ap (λ (u : Now). u.kept.notes) same }
behind s t book events p (inr e) =
    let part : Part s (Chose ∷ []) t = subst (λ (es : List Event). Part s es t) e p in
    record { same_book = ap (λ (es : List Event). grow_all es s book) e; notes = ap (λ (u : Now). u.kept.notes) part.1 }

pub sends_keep : SendsKeep
unfolding step
sends_keep n old new none k l d =
    let r : RunsOn old = k.runs none in
    let admits : Admits (Went n) old.now = omega (arith, l, r.lent, ap length (fault_front old.now r.fault)) in
    let b : Begins old (Went n) = begins old (Went n) none k admits in
    let sent : Now = step (Went n) old.now in
    let book : Book = grown (Went n) old.now (closed old.book) in
    let after : Behind sent new.now book d.events = behind sent new.now book d.events d.row.0 (went_then_chooses old.now new.now n d.events r.sound admits r.rests d.row) in
    let follows : FollowsOn new.now book = subst (λ (x : Book). FollowsOn new.now x) after.same_book (follows_part sent new.now book d.events b.after d.row.0) in
    let proxy : SameProxy old.now new.now = same_then (same_step (Went n) old.now) (same_part sent new.now d.events d.row.0) in
    keeps_so new (record { now = new.now; book = book; fault = None }) refl d.book d.goes_on
    (runs_on new.now book follows d.row.1 (proxy.fault ∙ r.fault) (after.notes ∙ r.notes) (omega arith)
    (omega (arith, weight_grows (Went n) old.now (closed old.book) b.follows.follows, went_cost n old.now.live.here, same_weight 0 old.book, k.weighs, l)))

-- ---- bytes are lent

law_index : (fault : Option ProxyFault) (book : Book) (room : ℕ) → IndexIs fault book.trail → IndexIs fault (record book.trail { lines = record book.trail.lines { room = room } })
law_index None book room h = tt
law_index (Some (faults.Frame connection place cause)) book room h = tt
law_index (Some (faults.Peer index cause)) book room h = h
law_index (Some (faults.Limit which)) book room h = tt
law_index (Some Memory) book room h = tt

law_room : (side : Side) (token : List ℕ) (room : ℕ) (book : Book) (fault : Option ProxyFault) → Law side token book fault
    → Law side token (record book { trail = record book.trail { lines = record book.trail.lines { room = room } } }) fault
law_room side token room book fault h = record {
  story = h.story;
  tells = record { side_is = h.tells.side_is; taken = h.tells.taken; made = h.tells.made; copies = h.tells.copies; accepted = h.tells.accepted; acknowledged = h.tells.acknowledged; order = h.tells.order };
  log = h.log;
  stop = h.stop;
  wire = h.wire;
  heard = h.heard;
  stops = h.stops;
  index = law_index fault book room h.index;
  weighs = omega (arith, same_weight room book, h.weighs);
}

lent_keeps : (old : TrailState) → old.fault ≡ None → Keeps old → weight old.book.trail + length (front_of old.now) ≤ MOST_WEIGHT → Keeps (lent_room old)
lent_keeps old none k l =
    let r : RunsOn old = k.runs none in
    let room : ℕ = length (front_of old.now) in
    keeps_so (lent_room old) (record (lent_room old) { fault = None }) refl refl none
    (runs_on old.now (lent_room old).book (record { follows = follows_room room old.now old.book r.follows; sound = r.sound }) r.rests r.fault r.notes (omega arith)
    (omega (arith, same_weight room old.book, l)))

not_lent_keeps : (fault : ProxyFault) (old new : TrailState) → old.fault ≡ None → Keeps old → NotLent fault old new → Keeps new
not_lent_keeps fault old new none k d =
    let b : Begins old Lent = begins old Lent none k tt in
    fails_at_once old Lent fault new b own d.fault_is (ap (λ (s : Now). s.side) d.now) (ap (λ (s : Now). s.token) d.now)
    (ring_of old.now new.now (closed old.book) (Some fault) b.follows.follows (ap (λ (s : Now). s.kept.ring) d.now)) d.book
  where
    own : IsOwn (length old.book.trail.taken) fault
    own = elim d.because [
      | inl heavy ↦ subst (λ (x : ProxyFault). IsOwn (length old.book.trail.taken) x) (sym heavy.0) tt
      | inr memory ↦ subst (λ (x : ProxyFault). IsOwn (length old.book.trail.taken) x) (sym memory) tt
    ]

pub lends_keep : LendsKeep
lends_keep result old new k lends = by_fault old.fault refl lends
  where
    by_result : (result : Result Unit ProxyFault) → RunsLends result old new → old.fault ≡ None → Keeps new
    by_result (Ok done) d none = subst (λ (t : TrailState). Keeps t) (sym d.1) (lent_keeps old none k d.0)
    by_result (Err fault) d none = not_lent_keeps fault old new none k d

    by_fault : (fault : Option ProxyFault) → old.fault ≡ fault → LendsAfter fault result old new → Keeps new
    by_fault None none d = by_result result d none
    by_fault (Some fault) known d = subst (λ (t : TrailState). Keeps t) (sym d.same) k
