-- Calls of one proxy, which is this project's own, that did what they may not do: none of them is
-- what a call does.
use Rattle.std.specs.Prelude.{◌≡◌, ◌≢◌, ◌+◌, ◌<◌, List, [], ◌∷◌, ◌++◌, true, Some, None}
use Rattle.std.specs.Prelude.{Result, Ok, Err}
use Rattle.transfer_frames.specs.declared.cause.FrameCause.{FrameCause}
use Rattle.transfer_frames.specs.declared.frame.Frame.{Frame}
use Rattle.half_model.specs.Content.{content_fault}
use Rattle.half_model.specs.Group.{Owed}
use Rattle.half_model.specs.Turn.{waits_in}
use Rattle.pair_model.specs.Steps.{Here, here_ack}
use Rattle.side_model.specs.declared.fault.ProxyFault.{ProxyFault}
use Rattle.side_model.specs.declared.fault.ProxyFault.TheVariants.{Memory}
use Rattle.side_model.specs.Books.{MOST_WEIGHT, weight, line_cost, closed, Fit}
use Rattle.side_model.specs.Calls.{Part, Calls, barred}
use Rattle.side_model.specs.Due.{next}
use Rattle.side_model.specs.Events.{Event, Heard, Took, Ended, Chose, Do, Halt}
use Rattle.side_model.specs.Shows.{wants_peer}
use Rattle.side_model.specs.Sound.{Sound, GroupFits, Admits}
use Rattle.side_model.specs.State.{Now}
use Rattle.side_model.specs.Steps.{step}
use Rattle.side_model.specs.Trails.{TrailState, Keeps, TrailCalls, LIMIT_TRAIL}

-- ---- what it answered

-- it was done while an event was due
abbrev pub StopsEarly : Type 0
StopsEarly = (event other : Event) (events : List Event) (old new : Now)
    → Calls event (Ok tt) events old new → next new ≡ Do other → ⊥

-- or a fault
abbrev pub MissesFault : Type 0
MissesFault = (event : Event) (fault : ProxyFault) (events : List Event) (old new : Now)
    → Calls event (Ok tt) events old new → next new ≡ Halt fault → ⊥

-- a call that began, and these events of it, which led here
pub record CameTo (event : Event) (fault : ProxyFault) (events : List Event) (old last new : Now)
    : Type 0 where
  pub goes_on : old.fault ≡ None
  pub begins : barred event old ≡ None
  pub calls : Calls event (Err fault) events old new
  pub memory : fault ≢ Memory
  pub part : Part (step event old) events last

-- it failed while an event was due
abbrev pub FailsEarly : Type 0
FailsEarly = (event other : Event) (fault : ProxyFault) (events : List Event) (old last new : Now)
    → CameTo event fault events old last new → next last ≡ Do other → ⊥

-- or for another fault than the one that was due
abbrev pub FailsElse : Type 0
FailsElse = (event : Event) (fault due : ProxyFault) (events : List Event) (old last new : Now)
    → CameTo event fault events old last new → next last ≡ Halt due → due ≢ fault → ⊥

-- it failed, and forgot the ring
abbrev pub ForgetsRing : Type 0
ForgetsRing = (event : Event) (fault : ProxyFault) (events : List Event) (old last new : Now)
    → CameTo event fault events old last new → new.kept.ring ≢ last.kept.ring → ⊥

-- it had failed before, and changed something
abbrev pub FailedChanges : Type 0
FailedChanges =
    (event : Event) (fault : ProxyFault) (answer : Result Unit ProxyFault) (events : List Event)
    (old new : Now)
    → old.fault ≡ Some fault → Calls event answer events old new → new ≢ old → ⊥

-- or all went well then
abbrev pub FailedGoesOn : Type 0
FailedGoesOn = (event : Event) (fault : ProxyFault) (events : List Event) (old new : Now)
    → old.fault ≡ Some fault → Calls event (Ok tt) events old new → ⊥

-- ---- in which order it went

-- something happened behind the choice of a front, as a frame that was heard
abbrev pub ActsBehindChoice : Type 0
ActsBehindChoice = (s t : Now) (before : List Event) (event : Event) (after : List Event)
    → Sound s → ((u : Now) (some : List Event) → Part s some u → GroupFits u)
    → Part s (before ++ Chose ∷ event ∷ after) t → ⊥

-- a frame was heard that is refused for what it says
abbrev pub HearsRefused : Type 0
HearsRefused = (s : Now) (frame : Frame) (cause : FrameCause)
    → content_fault s.live.tables s.live.taking frame ≡ Some cause → next s ≡ Do (Heard frame) → ⊥

-- a message was taken while one was owed
abbrev pub TakesOwing : Type 0
TakesOwing = (s : Now) (owed : Owed) → s.live.sending.owes ≡ Some owed → next s ≡ Do Took → ⊥

-- CLOSE was made while a message was owed, or one waited
abbrev pub EndsOwing : Type 0
EndsOwing = (s : Now) (owed : Owed) → s.live.sending.owes ≡ Some owed → next s ≡ Do Ended → ⊥

abbrev pub EndsBefore : Type 0
EndsBefore = (s : Now) → waits_in s.live.sending ≡ true → next s ≡ Do Ended → ⊥

-- a front was chosen while one was being sent
abbrev pub ChoosesAgain : Type 0
ChoosesAgain = (s : Now) (here : Here) → s.live.here ≡ Some here → here.front ≢ []
    → next s ≡ Do Chose → ⊥

-- a frame of the ring was chosen while an ACK was due
abbrev pub SendsBeforeAck : Type 0
SendsBeforeAck = (s : Now) (here : Here) → s.live.here ≡ Some here → here.told < s.kept.accepted
    → next s ≡ Do Chose → (step Chose s).live.here ≢ Some (here_ack s.kept.accepted here) → ⊥

-- it took from its peer while a message was owed
abbrev pub WantsOwing : Type 0
WantsOwing = (s : Now) (owed : Owed) → s.live.sending.owes ≡ Some owed → wants_peer s ≡ true → ⊥

-- ---- what it recorded

-- what came was too heavy, and was recorded
abbrev pub RecordsTooMuch : Type 0
RecordsTooMuch = (event : Event) (old new : TrailState) → TrailCalls event (Ok tt) old new
    → MOST_WEIGHT < weight old.book.trail + line_cost event old.now.live.here → ⊥

-- it answered that the records are full, and all that it did fits
abbrev pub LimitsEarly : Type 0
LimitsEarly =
    (event : Event) (events : List Event) (old : TrailState) (last : Now) (new : TrailState)
    → old.fault ≡ None → Calls event (Ok tt) events old.now last
    → Fit (event ∷ events) old.now (closed old.book)
    → TrailCalls event (Err LIMIT_TRAIL) old new → ⊥

-- the weight of what it recorded was not counted
abbrev pub CountsNoWeight : Type 0
CountsNoWeight = (event : Event) (answer : Result Unit ProxyFault) (old new : TrailState)
    → Keeps old → Admits event old.now → TrailCalls event answer old new
    → MOST_WEIGHT < weight new.book.trail → ⊥
