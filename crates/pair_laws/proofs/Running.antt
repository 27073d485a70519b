-- The records follow a plain run whose events may come.
use Rattle.std.proofs.Common.{◌≡◌, ℕ, suc, zero, Bool, true, false, ◌&&◌, nat_le, nat_lt, List, [], ◌∷◌, Option, Some, None, length, refl, arith}
use Rattle.std.proofs.lemmas.Bool.{false≢true, and_parts, leb-true, ltb-true}
use Rattle.std.specs.Prelude.{is_none}
use Rattle.transfer_frames.specs.Numbers.{IsBytes}
use Rattle.half_model.specs.declared.items.PeerIn.{PeerIn}
use Rattle.half_model.specs.declared.items.PeerIn.TheVariants as inputs
use Rattle.pair_model.specs.Steps.{Here}
use Rattle.side_model.specs.Due.{next}
use Rattle.side_model.specs.Events.{Event, Fed, Up, Came, Went, Gave, Next, Do, Halt, Rest}
use Rattle.side_model.specs.Follows.{Follows}
use Rattle.side_model.specs.Running.{Run, happens, and_notes, goes_on, settle, call, calls, MOST_DUE}
use Rattle.side_model.specs.Shows.{wants_peer, front_here}
use Rattle.side_model.specs.Sound.{Admits, MOST_PIECE}
use Rattle.side_model.specs.State.{Now}
use Rattle.side_model.proofs.FollowsAll.{follows_outside, follows_inside}

-- ---- the events that are due

abbrev pub FollowsRun : Run → Type 0
FollowsRun run = Follows run.now run.book

follows_settle : (most : ℕ) (run : Run) → FollowsRun run → FollowsRun (settle most run)
follows_settle zero run f = f
follows_settle (suc most) run f = by_due (follows_settle most) (next run.now) refl
  where
    by_due : ((later : Run) → FollowsRun later → FollowsRun (settle most later)) → (due : Next) → next run.now ≡ due → FollowsRun (goes_on due run (settle most))
    by_due rest (Do event) e = rest (and_notes event (happens event run)) (follows_inside event run.now run.book f e)
    by_due rest (Halt fault) e = f
    by_due rest Rest e = f

-- ---- the events from outside

abbrev are_bytes : List ℕ → Bool
are_bytes [] = true
are_bytes (byte ∷ bytes) = nat_lt byte 256 && are_bytes bytes

-- an event may come, of those that are tested here
abbrev may_feed : PeerIn → Now → Bool
may_feed (inputs.Bytes bytes) s = wants_peer s && (nat_le 1 (length bytes) && nat_le (length bytes) MOST_PIECE)
may_feed item s = false

abbrev may_come : Event → Now → Bool
may_come (Fed item) s = may_feed item s
may_come (Up connection) s = is_none s.live.here && (nat_lt s.kept.last connection && nat_lt connection 4294967296)
may_come (Came piece) s = are_bytes piece
may_come (Went n) s = nat_le n (length (front_here s.live.here))
may_come Gave s = true
may_come event s = false

abbrev is_rest : Next → Bool
is_rest (Do event) = false
is_rest (Halt fault) = false
is_rest Rest = true

-- each one comes at rest
abbrev pub may_run : List Event → Run → Bool
may_run [] run = true
may_run (event ∷ events) run = (is_rest (next run.now) && may_come event run.now) && may_run events (call MOST_DUE event run)

-- ---- that they may come

bytes_in : (bytes : List ℕ) → are_bytes bytes ≡ true → IsBytes bytes
bytes_in [] e i = omega arith
bytes_in (byte ∷ bytes) e zero = ltb-true byte 256 (and_parts (nat_lt byte 256) (are_bytes bytes) e).0
bytes_in (byte ∷ bytes) e (suc i) = bytes_in bytes (and_parts (nat_lt byte 256) (are_bytes bytes) e).1 i

none_here : (here : Option Here) → is_none here ≡ true → here ≡ None
none_here None e = refl
none_here (Some here) e = absurd (false≢true e)

admits_item : (item : PeerIn) (s : Now) → may_feed item s ≡ true → Admits (Fed item) s
admits_item (inputs.Bytes bytes) s e =
    let wants = and_parts (wants_peer s) (nat_le 1 (length bytes) && nat_le (length bytes) MOST_PIECE) e in
    let sized = and_parts (nat_le 1 (length bytes)) (nat_le (length bytes) MOST_PIECE) wants.1 in
    (wants.0, (leb-true 1 (length bytes) sized.0, leb-true (length bytes) MOST_PIECE sized.1))
admits_item _ s e = absurd (false≢true e)

admits : (event : Event) (s : Now) → may_come event s ≡ true → Admits event s
admits (Fed item) s e = admits_item item s e
admits (Up connection) s e =
    let none = and_parts (is_none s.live.here) (nat_lt s.kept.last connection && nat_lt connection 4294967296) e in
    let both = and_parts (nat_lt s.kept.last connection) (nat_lt connection 4294967296) none.1 in
    (none_here s.live.here none.0, ltb-true s.kept.last connection both.0, ltb-true connection 4294967296 both.1)
admits (Came piece) s e = bytes_in piece e
admits (Went n) s e = leb-true n (length (front_here s.live.here)) e
admits Gave s e = tt
admits _ s e = absurd (false≢true e)

rests : (due : Next) → is_rest due ≡ true → due ≡ Rest
rests (Do event) e = absurd (false≢true e)
rests (Halt fault) e = absurd (false≢true e)
rests Rest e = refl

pub follows_calls : (events : List Event) (run : Run) → may_run events run ≡ true → FollowsRun run → FollowsRun (calls MOST_DUE events run)
follows_calls [] run e f = f
follows_calls (event ∷ events) run e f =
    let both = and_parts (is_rest (next run.now) && may_come event run.now) (may_run events (call MOST_DUE event run)) e in
    let here = and_parts (is_rest (next run.now)) (may_come event run.now) both.0 in
    let one : FollowsRun (happens event run) = follows_outside event run.now run.book f (rests (next run.now) here.0) (admits event run.now here.1) in
    follows_calls events (call MOST_DUE event run) both.1 (follows_settle MOST_DUE (happens event run) one)
