-- A call that rests again, or that fails with all recorded, keeps the records.
use Rattle.std.proofs.Common.{◌≡◌, ℕ, length, ◌≤◌, List, [], ◌∷◌, Option, Some, None, Ok, Err, Bool, true, false, nat_lt, refl, sym, ap, subst, ◌∙◌, arith, inl, inr, if◌then◌else◌}
use Rattle.half_model.specs.declared.causes.Limit.TheVariants.{Connections}
use Rattle.half_model.specs.declared.causes.PeerCause.TheVariants.{PipeUnknown}
use Rattle.half_model.specs.declared.items.PeerIn.TheVariants as inputs
use Rattle.half_model.specs.PipeTurn as pipes
use Rattle.half_model.specs.PipeTurn.{PipeTurn, pipe_turn}
use Rattle.pair_model.specs.RingState.{RingState}
use Rattle.side_model.specs.declared.fault.ProxyFault.{ProxyFault}
use Rattle.side_model.specs.declared.fault.ProxyFault.TheVariants as faults
use Rattle.side_model.specs.declared.fault.ProxyFault.TheVariants.{Limit}
use Rattle.side_model.specs.Books.{Book, MOST_WEIGHT, weight, grown, grow_all, closed, Fit}
use Rattle.side_model.specs.Calls.{Part, Row, CallsBarred, CallsAfter, Calls, barred, barred_pipe, MOST_CONNECTIONS}
use Rattle.side_model.specs.Events.{Event, Fed, Handed, Lent, Up, Down, Came, Went, Gave, Asks, Told, Heard, Took, Grouped, Ended, Chose, Rest}
use Rattle.side_model.specs.Follows.{Follows}
use Rattle.side_model.specs.FollowLaws.{IsOwn}
use Rattle.side_model.specs.Records.{Law, KeptRing}
use Rattle.side_model.specs.Sound.{Admits}
use Rattle.side_model.specs.State.{Now}
use Rattle.side_model.specs.Steps.{step}
use Rattle.side_model.specs.Trails.{TrailState, with_notes, Keeps, Done, TooHeavy, Fails, FailsAtOnce, LIMIT_TRAIL}
use Rattle.side_model.proofs.Dues.{all_rest}
use Rattle.side_model.proofs.Parts.{SameProxy, same_then, same_step, same_part, FollowsOn, follows_part, fits_part, same_room}
use Rattle.side_model.proofs.Stopping.{lawful_stops}
use Rattle.side_model.proofs.Weighing.{weight_grows}
use Rattle.side_model.proofs.TrailParts.{follows_notes, sound_notes, next_notes, keeps_so, law_so, ring_whole, failed, runs_on, Begins, begins}

-- ---- it rests again

ok_run : (event : Event) (events : List Event) (old last : Now) → old.fault ≡ None → Calls event (Ok tt) events old last → Row (step event old) events last Rest
ok_run event events old last none calls = by_fault old.fault none calls
  where
    by_barred : (bar : Option ProxyFault) → CallsBarred bar event (Ok tt) events old last → Row (step event old) events last Rest
    by_barred None r = r
    by_barred (Some fault) r = absurd (let never : Ok tt ≡ Err fault = r.answers in cc)

    by_fault : (fault : Option ProxyFault) → fault ≡ None → CallsAfter fault event (Ok tt) events old last → Row (step event old) events last Rest
    by_fault None e r = by_barred (barred event old) r
    by_fault (Some fault) e r = absurd cc

-- the weight behind all of it
pub whole_weighs : (old : TrailState) (event : Event) (b : Begins old event) (events : List Event) (at : Now) → Part (step event old.now) events at → Fit (event ∷ events) old.now (closed old.book)
    → weight (grow_all (event ∷ events) old.now (closed old.book)).trail ≤ MOST_WEIGHT
whole_weighs old event b events at part fit =
    fits_part (step event old.now) at (grown event old.now (closed old.book)) events b.after part fit.1 (omega (arith, weight_grows event old.now (closed old.book) b.follows.follows, fit.0))

pub done_keeps : (event : Event) (old new : TrailState) → old.fault ≡ None → Keeps old → Admits event old.now → Done event old new → Keeps new
done_keeps event old new none k a d =
    let b : Begins old event = begins old event none k a in
    let row : Row (step event old.now) d.events d.last Rest = ok_run event d.events old.now d.last b.runs.fault d.calls in
    let book : Book = grow_all (event ∷ d.events) old.now (closed old.book) in
    let after : FollowsOn d.last book = follows_part (step event old.now) d.last (grown event old.now (closed old.book)) d.events b.after row.0 in
    let room : book.trail.lines.room ≡ 0 = same_room (event ∷ d.events) old.now (closed old.book) in
    let proxy : SameProxy old.now d.last = same_then (same_step event old.now) (same_part (step event old.now) d.last d.events row.0) in
    keeps_so new (record { now = with_notes [] d.last; book = book; fault = None }) d.now d.whole.book d.goes_on
    (runs_on (with_notes [] d.last) book (record { follows = follows_notes [] d.last book after.follows; sound = sound_notes [] d.last after.sound }) (next_notes [] d.last row.1)
    (proxy.fault ∙ b.runs.fault) refl (omega (arith, room)) (omega (arith, room, whole_weighs old event b d.events d.last row.0 d.whole.fit)))

-- ---- it fails

-- at once, with nothing recorded
pub fails_at_once : (old : TrailState) (event : Event) (fault : ProxyFault) (new : TrailState) → Begins old event → IsOwn (length old.book.trail.taken) fault → new.fault ≡ Some fault → new.now.side ≡ old.now.side → new.now.token ≡ old.now.token
    → KeptRing (closed old.book).trail.made (closed old.book).trail.acknowledged (Some fault) new.now.kept.ring → new.book ≡ closed old.book → Keeps new
fails_at_once old event fault new b own e side token ring book =
    keeps_so new (record { now = new.now; book = closed old.book; fault = Some fault }) refl book e
    (failed (record { now = new.now; book = closed old.book; fault = Some fault }) fault refl
    (law_so old.now new.now (closed old.book) (Some fault) side token (lawful_stops.own old.now (closed old.book) fault b.follows.follows b.weighs (all_rest old.now b.runs.rests).hears own))
    ring (omega (arith, b.weighs)))

pub ring_of : (s t : Now) (book : Book) (fault : Option ProxyFault) → Follows s book → t.kept.ring ≡ s.kept.ring → KeptRing book.trail.made book.trail.acknowledged fault t.kept.ring
ring_of s t book fault f e = subst (λ (ring : RingState). KeptRing book.trail.made book.trail.acknowledged fault ring) (sym e) (ring_whole s book fault f)

barred_own : (event : Event) (s : Now) (fault : ProxyFault) → barred event s ≡ Some fault → IsOwn s.live.sending.taken fault
barred_own (Up connection) s fault e = go (nat_lt MOST_CONNECTIONS connection) e
  where
    go : (b : Bool) → (if b then Some (Limit Connections) else None) ≡ Some fault → IsOwn s.live.sending.taken fault
    go true d = let same : Limit Connections ≡ fault = cc in subst (λ (x : ProxyFault). IsOwn s.live.sending.taken x) same tt
    go false d = absurd cc
barred_own (Fed (inputs.Bytes bytes)) s fault e = absurd cc
barred_own (Fed (inputs.Handle handle)) s fault e = absurd cc
barred_own (Fed (inputs.Note note)) s fault e = absurd cc
barred_own (Fed (inputs.Pipe item)) s fault e = go (pipe_turn s.live.tables s.live.taking item) e
  where
    go : (it : PipeTurn) → barred_pipe s.live.sending.taken it ≡ Some fault → IsOwn s.live.sending.taken fault
    go pipes.Barred d = let same : faults.Peer s.live.sending.taken PipeUnknown ≡ fault = cc in subst (λ (x : ProxyFault). IsOwn s.live.sending.taken x) same refl
    go (pipes.Drops tables) d = absurd cc
    go (pipes.Makes frame tables) d = absurd cc
barred_own (Handed done) s fault e = absurd cc
barred_own Lent s fault e = absurd cc
barred_own Down s fault e = absurd cc
barred_own (Came piece) s fault e = absurd cc
barred_own (Went n) s fault e = absurd cc
barred_own Gave s fault e = absurd cc
barred_own (Asks reason) s fault e = absurd cc
barred_own Told s fault e = absurd cc
barred_own (Heard frame) s fault e = absurd cc
barred_own Took s fault e = absurd cc
barred_own Grouped s fault e = absurd cc
barred_own Ended s fault e = absurd cc
barred_own Chose s fault e = absurd cc

pub at_once_keeps : (event : Event) (fault : ProxyFault) (old new : TrailState) → Begins old event → new.fault ≡ Some fault → FailsAtOnce event fault old new → Keeps new
at_once_keeps event fault old new b e d =
    fails_at_once old event fault new b own e d.side d.token (ring_of old.now new.now (closed old.book) (Some fault) b.follows.follows (ap (λ kept. kept.ring) d.kept)) d.book
  where
    own : IsOwn (length old.book.trail.taken) fault
    own = elim d.because [
      | inl bar ↦ subst (λ (n : ℕ). IsOwn n fault) b.follows.follows.taken (barred_own event old.now fault bar)
      | inr memory ↦ subst (λ (x : ProxyFault). IsOwn (length old.book.trail.taken) x) (sym memory) tt
    ]

pub heavy_keeps : (event : Event) (fault : ProxyFault) (old new : TrailState) → Begins old event → fault ≡ LIMIT_TRAIL → new.fault ≡ Some fault → TooHeavy event old new → Keeps new
heavy_keeps event fault old new b f e d =
    fails_at_once old event fault new b (subst (λ (x : ProxyFault). IsOwn (length old.book.trail.taken) x) (sym f) tt) e (ap (λ (s : Now). s.side) d.now) (ap (λ (s : Now). s.token) d.now)
    (ring_of old.now new.now (closed old.book) (Some fault) b.follows.follows (ap (λ (s : Now). s.kept.ring) d.now)) d.book

-- behind events that are all recorded
pub fails_keeps : (event : Event) (fault : ProxyFault) (old new : TrailState) → Begins old event → new.fault ≡ Some fault → Fails event fault old new → Keeps new
fails_keeps event fault old new b e d =
    let at : Now = d.stops.last in
    let book : Book = grow_all (event ∷ d.events) old.now (closed old.book) in
    let after : FollowsOn at book = follows_part (step event old.now) at (grown event old.now (closed old.book)) d.events b.after d.stops.part in
    let room : book.trail.lines.room ≡ 0 = same_room (event ∷ d.events) old.now (closed old.book) in
    let weighs : weight book.trail ≤ MOST_WEIGHT = whole_weighs old event b d.events at d.stops.part d.whole.fit in
    let law : Law at.side at.token book (Some fault) = elim d.stops.due [
      | inl halt ↦ lawful_stops.halts at book fault after.follows weighs halt
      | inr memory ↦ subst (λ (x : ProxyFault). Law at.side at.token book (Some x)) (sym memory) (lawful_stops.memory at book after.follows weighs)
    ] in
    keeps_so new (record { now = with_notes [] d.last; book = book; fault = Some fault }) d.now d.whole.book e
    (failed (record { now = with_notes [] d.last; book = book; fault = Some fault }) fault refl (law_so at (with_notes [] d.last) book (Some fault) d.stops.halted.side d.stops.halted.token law)
    (ring_of at (with_notes [] d.last) book (Some fault) after.follows (ap (λ kept. kept.ring) d.stops.halted.kept)) (omega (arith, room, weighs)))
