-- What the calls of a sending half answer; this project's own.
use Rattle.std.specs.Prelude.{◌≡◌, Bool, true, false, Option, Some, None, Result, Ok, Err}
use Rattle.std.specs.Prelude.{ℕ, List, length, drop}
use Rattle.half_model.specs.declared.causes.HalfFault.{HalfFault}
use Rattle.half_model.specs.declared.causes.HalfFault.TheVariants as faults
use Rattle.half_model.specs.declared.items.PeerIn.{PeerIn}
use Rattle.half_model.specs.declared.items.PeerIn.TheVariants as items
use Rattle.half_model.specs.Inlet.{Inlet, end_of}
use Rattle.half_model.specs.declared.causes.PeerCause.{PeerCause}
use Rattle.half_model.specs.Planning.{Refusal, ByCause}
use Rattle.half_model.specs.Tables.{Tables}
use Rattle.half_model.specs.Turn.{Turn, Idle, Refuses, Takes, Treated}
use Rattle.send_half.specs.SendState.{SendState, taken_by}

-- an item that a half is fed: bytes, a handle or a note
abbrev pub IsFed : PeerIn → Type 0
IsFed (items.Pipe item) = ⊥
IsFed item = Unit {0}

-- the tests find nothing to refuse, or this cause
abbrev pub IfRefused : Result Unit PeerCause → Option Refusal → Type 0
IfRefused (Ok unit) refusal = refusal ≡ None
IfRefused (Err cause) refusal = refusal ≡ Some (ByCause cause)

-- the inlet without the message at its front, if there is one
abbrev pub front_taken : Option (List ℕ) → Inlet → Inlet
front_taken None inlet = inlet
front_taken (Some message) inlet =
    record inlet { bytes = drop (length message) inlet.bytes; taken = end_of message inlet }

-- ---- to treat what waits

-- nothing is to be treated, and nothing changes
pub record Rests (next : Turn) (tables after : Tables) (old new : SendState) : Type 0 where
  pub idle : next ≡ Idle
  pub half : new ≡ old
  pub shared : after ≡ tables

-- a message is taken, and leaves what it is to in the half and in the tables
pub record Took (next : Turn) (after : Tables) (old new : SendState) : Type 0 where
  pub it : Treated
  pub takes : next ≡ Takes it
  pub half : new ≡ taken_by it old
  pub shared : after ≡ it.tables

-- a half that fails keeps what it made, its copies and what it noted
pub record Halts (fault : HalfFault) (old new : SendState) : Type 0 where
  pub failed : new.fault ≡ Some fault
  pub side : new.side ≡ old.side
  pub jobs : new.jobs ≡ old.jobs
  pub frames : new.frames ≡ old.frames
  pub receipts : new.receipts ≡ old.receipts
  pub noted : new.noted ≡ old.noted

-- what a half keeps that is to fail
pub record Stays (old new : SendState) : Type 0 where
  pub side : new.side ≡ old.side
  pub jobs : new.jobs ≡ old.jobs
  pub frames : new.frames ≡ old.frames
  pub receipts : new.receipts ≡ old.receipts
  pub noted : new.noted ≡ old.noted
  pub fault : new.fault ≡ old.fault

-- a message is refused for this; it passes no handle
pub record RefusedFor (fault : HalfFault) (next : Turn) (tables after : Tables) : Type 0 where
  pub refuses : next ≡ Refuses fault
  pub handles : after.handles ≡ tables.handles
  pub pipes : after.pipes ≡ tables.pipes

-- want of memory may come at any time
abbrev pub Refused : HalfFault → Turn → (tables after : Tables) → Type 0
Refused (faults.Peer index cause) next tables after =
    RefusedFor (faults.Peer index cause) next tables after
Refused (faults.Limit which) next tables after = RefusedFor (faults.Limit which) next tables after
Refused faults.Memory next tables after = Unit {0}

-- what a half that has not failed answers
abbrev pub Treats : Result Bool HalfFault → Turn → (tables after : Tables) → (old new : SendState)
    → Type 0
Treats (Ok false) next tables after old new = Rests next tables after old new
Treats (Ok true) next tables after old new = Took next after old new
Treats (Err fault) next tables after old new =
    Refused fault next tables after × Halts fault old new

-- the same, while the fault is not kept yet
abbrev pub TreatsFront : Result Bool HalfFault → Turn → (tables after : Tables)
    → (old new : SendState) → Type 0
TreatsFront (Ok false) next tables after old new = Rests next tables after old new
TreatsFront (Ok true) next tables after old new = Took next after old new
TreatsFront (Err fault) next tables after old new =
    Refused fault next tables after × Stays old new

-- a message that was taken out of the bytes is taken, or refused
abbrev pub Goes : Result Unit HalfFault → Turn → (tables after : Tables) → (old new : SendState)
    → Type 0
Goes (Ok unit) next tables after old new = Took next after old new
Goes (Err fault) next tables after old new = Refused fault next tables after × Stays old new

-- a half that has failed answers its fault again, and nothing changes
pub record Again (fault : HalfFault) (result : Result Bool HalfFault)
    (tables after : Tables) (old new : SendState) : Type 0 where
  pub answers : result ≡ Err fault
  pub half : new ≡ old
  pub shared : after ≡ tables

abbrev pub TreatsAfter : Option HalfFault → Result Bool HalfFault → Turn → (tables after : Tables)
    → (old new : SendState) → Type 0
TreatsAfter None result next tables after old new = Treats result next tables after old new
TreatsAfter (Some fault) result next tables after old new =
    Again fault result tables after old new
