-- For which causes the next message of a side's peer, or an item that it puts for a pipe, is
-- refused: by the form of Wayland messages, by the objects that the messages passed before it made,
-- and by the handles and notes that come with it, which are this project's own.
use Rattle.std.specs.Prelude.{◌≡◌, ℕ, ◌<◌, ◌≤◌, max, ℤ, ◌&&◌, true, false, List, [], ◌∷◌, ◌++◌}
use Rattle.std.specs.Prelude.{map, Option, Some, None, option_and_then, Ok, Err, ◌⊎◌}
use Rattle.std.specs.Option.{MatchOption}
use Rattle.wp_outside.specs.declared.kinds.HandleKind.{HandleKind}
use Rattle.wp_outside.specs.declared.kinds.Side.{Side}
use Rattle.wp_outside.specs.declared.pipe_items.PipeItem.{PipeItem}
use Rattle.wl_wire.specs.declared.faults.ObjectFault.{ObjectFault}
use Rattle.wl_wire.specs.declared.faults.ObjectFault.TheVariants.{Wire}
use Rattle.wl_wire.specs.declared.faults.WireFault.{WireFault}
use Rattle.wl_wire.specs.Wire.{first}
use Rattle.wl_tables.specs.declared.way.Way.{Way}
use Rattle.wl_tables.specs.Ways.{own_way}
use Rattle.wl_objects.specs.Entries.{first_objects}
use Rattle.wl_objects.specs.Tracking.{Admission, step, track}
use Rattle.handle_table.specs.declared.handles.Handle.{Handle}
use Rattle.handle_table.specs.Table.{is_kind}
use Rattle.half_model.specs.declared.causes.Limit.{Limit}
use Rattle.half_model.specs.declared.causes.Limit.TheVariants as limits
use Rattle.half_model.specs.declared.causes.PeerCause.{PeerCause}
use Rattle.half_model.specs.declared.causes.PeerCause.TheVariants as causes
use Rattle.half_model.specs.Deeds.{deed_of}
use Rattle.half_model.specs.Filling.{covers}
use Rattle.half_model.specs.Inlet.{Inlet, handle_for, note_for, eyes_in}
use Rattle.half_model.specs.Log.{Mark, LogState}
use Rattle.half_model.specs.PipeTurn.{item_by_rid}
use Rattle.half_model.specs.Planning.{Plan, kind_carried, plan_passed, tell_in, sum_with}
use Rattle.half_model.specs.Shm.{Passing, Tell, passing_of, told_at}
use Rattle.half_model.specs.Sides.{is_own}
use Rattle.half_model.specs.Story.{order_in}
use Rattle.half_model.specs.StoryLaws.{now}
use Rattle.mirror_pools.specs.Sizes.{ToldSizes, MOST_FILE, MOST_FILES}
use Rattle.pipe_relay.specs.Pipes.{is_unknown}

-- ---- by its form and by tracking

-- the bytes that wait begin with a size that no message has
pub record BadSize (waits : Inlet) (fault : ObjectFault) : Type 0 where
  pub bad : WireFault
  pub front : first waits.bytes ≡ Err bad
  pub is : fault ≡ Wire bad

-- as the last message of its order, the next one is the first that isn't tracked
pub record Untracked (side : Side) (order : List (Way × List ℕ)) (waits : Inlet)
    (fault : ObjectFault) : Type 0 where
  pub message : List ℕ
  pub front : first waits.bytes ≡ Ok (Some message)
  pub last : track first_objects (order ++ (own_way side, message) ∷ []) ≡ Err fault

-- or it passes behind all others
pub record Passes (side : Side) (state : LogState) (waits : Inlet) : Type 0 where
  pub message : List ℕ
  pub front : first waits.bytes ≡ Ok (Some message)
  pub done : Admission
  pub passes : step (own_way side) state.tables.objects.tracked message ≡ Ok done

-- ---- by its handle and its note

-- the kind of the handle that its row wants, and the handle that it finds
abbrev pub kind_in : Side → Admission → Option HandleKind
kind_in side done = kind_carried (own_way side) done.passed

abbrev pub handle_in : Side → Inlet → List ℕ → Admission → Option Handle
handle_in side waits message done = handle_for (kind_in side done) message waits

-- how many words each segment of a file has in the note that it finds
abbrev pub words_noted : Side → Inlet → List ℕ → Admission → ℤ → List ℕ
words_noted side waits message done file =
    map (λ eye. eye.words)
    (eyes_in file (note_for (deed_of (own_way side) done.passed) message waits))

-- it carries a handle, and none waits
pub record LacksHandle (side : Side) (state : LogState) (waits : Inlet) : Type 0 where
  pub it : Passes side state waits
  pub kind : HandleKind
  pub carries : kind_in side it.done ≡ Some kind
  pub none : handle_in side waits it.message it.done ≡ None

-- the oldest one that waits is of another kind, or not the peer's own
pub record WrongHandle (side : Side) (state : LogState) (waits : Inlet) : Type 0 where
  pub it : Passes side state waits
  pub kind : HandleKind
  pub carries : kind_in side it.done ≡ Some kind
  pub handle : Handle
  pub finds : handle_in side waits it.message it.done ≡ Some handle
  pub wrong : is_kind handle.kind kind && is_own side handle.number ≡ false

-- its blocks are not covered by the note that it finds, or it finds none
pub record LacksNote (side : Side) (state : LogState) (waits : Inlet) : Type 0 where
  pub it : Passes side state waits
  pub plan : Plan
  pub planned : plan_passed state.tables state.shm it.message
      (handle_in side waits it.message it.done) it.done ≡ Ok plan
  pub uncovered : covers plan.filling.runs
      (words_noted side waits it.message it.done plan.filling.file.number) ≡ false

-- ---- all of it

-- the message at the front of what waits has this cause, where a side has come to a state by
-- passing messages in an order
abbrev pub HasCause : Side → LogState → List (Way × List ℕ) → Inlet → PeerCause → Type 0
HasCause side state order waits (causes.Object fault) =
    BadSize waits fault ⊎ Untracked side order waits fault
HasCause side state order waits causes.HandleMissing = LacksHandle side state waits
HasCause side state order waits causes.HandleKind = WrongHandle side state waits
HasCause side state order waits causes.NoteMissing = LacksNote side state waits
HasCause side state order waits causes.PipeUnknown = ⊥

-- behind all that a story tells
abbrev pub MessageHas : Side → List Mark → Inlet → PeerCause → Type 0
MessageHas side story waits cause = HasCause side (now side story) (order_in side story) waits cause

-- an item names no pipe whose end the peer holds, or an end that it closed
abbrev pub IsUnknown : LogState → PipeItem → Type 0
IsUnknown state item =
    MatchOption (item_by_rid state.tables.handles state.taking.held item) (Unit {0})
    (λ named. is_unknown state.tables.pipes named ≡ true)

-- ---- by a limit

-- what the handle passes, if there is one
abbrev pub passing_in : LogState → Option Handle → Option Passing
passing_in state handle = option_and_then (λ it. passing_of state.tables.handles it) handle

-- the told size of a file would be above its limit; or it would not, and the sum of all would
abbrev pub AboveSize : Limit → Tell → ToldSizes → Type 0
AboveSize limits.File tell told = MOST_FILE < max (told_at tell.file.rid told) tell.size
AboveSize limits.Files tell told =
    (max (told_at tell.file.rid told) tell.size ≤ MOST_FILE) × (MOST_FILES < sum_with tell told)
AboveSize which tell told = ⊥

-- the message tells such a size
pub record TellsAbove (which : Limit) (side : Side) (state : LogState) (waits : Inlet)
    : Type 0 where
  pub it : Passes side state waits
  pub tell : Tell
  pub says : tell_in state.tables state.shm it.message it.done
      (passing_in state (handle_in side waits it.message it.done)) ≡ Some tell
  pub above : AboveSize which tell state.shm.told
