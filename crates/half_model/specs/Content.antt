-- Which frames of the other side a taking half refuses for what they say, what it keeps of those
-- that it accepts, and what it gives to its peer; the messages in them are Wayland's, all else is
-- this project's own.
use Rattle.std.specs.Prelude.{ℕ, Bool, false, ◌||◌, if◌then◌else◌, ℤ, List, [], ◌∷◌, ◌++◌, Option}
use Rattle.std.specs.Prelude.{Some, None, is_some, is_none, option_map, option_to_list, Result, Ok}
use Rattle.std.specs.Prelude.{Err}
use Rattle.std.specs.List.{list_any}
use Rattle.wp_outside.specs.declared.kinds.HandleKind.{HandleKind}
use Rattle.wp_outside.specs.declared.kinds.HandleKind.TheVariants.{File, PipeWrite}
use Rattle.wl_wire.specs.declared.faults.ObjectFault.{ObjectFault}
use Rattle.wl_wire.specs.Wire.{cut}
use Rattle.wl_tables.specs.declared.way.Way.{Way}
use Rattle.wl_objects.specs.Entries.{Tracked}
use Rattle.wl_objects.specs.Registry.{ObjectsState}
use Rattle.wl_objects.specs.Tracking.{Admission, step}
use Rattle.handle_table.specs.Table.{Table, kind_of_rid, after_took, is_kind}
use Rattle.transfer_frames.specs.declared.cause.FrameCause.{FrameCause}
use Rattle.transfer_frames.specs.declared.cause.FrameCause.TheVariants.{RidInUse, RidUnknown}
use Rattle.transfer_frames.specs.declared.cause.FrameCause.TheVariants.{RidCount, PeerMessage}
use Rattle.transfer_frames.specs.declared.frame.Frame.{Frame}
use Rattle.transfer_frames.specs.declared.frame.Frame.TheVariants.{Protocol, Inject, OpenFile}
use Rattle.transfer_frames.specs.declared.frame.Frame.TheVariants.{ExtendFile, Fill, OpenPipe}
use Rattle.transfer_frames.specs.Faults.{or_else}
use Rattle.half_model.specs.declared.items.PeerOut.{PeerOut}
use Rattle.half_model.specs.declared.items.PeerOut.TheVariants as items
use Rattle.pipe_relay.specs.Pipes.{Rids, with_rid, with_other, pipe_cause, after_pipe_frame}
use Rattle.pipe_relay.specs.Pipes.{item_of_frame}
use Rattle.half_model.specs.Planning.{kind_carried}
use Rattle.half_model.specs.Sides.{other_way, is_own}
use Rattle.mirror_pools.specs.Sizes.{ToldSizes, with_size, open_cause, extend_cause, fill_cause}
use Rattle.half_model.specs.Tables.{Tables}

-- A taking half, but for the tables that it shares with the sending half: the sizes of the other
-- side's files, the rids that wait for their messages, and the pipes whose write end the peer was
-- given.
pub record Taking : Type 0 where
  pub sizes : ToldSizes
  pub waiting : List ℤ
  pub held : Rids

abbrev pub no_taking : Taking
no_taking = record { sizes = []; waiting = []; held = [] }

-- ---- the messages of a frame

-- while the messages of a frame pass: the objects, the rids that wait, the write ends that the peer
-- holds, and what it is to be given
pub record Passage : Type 0 where
  pub tracked : Tracked
  pub waiting : List ℤ
  pub held : Rids
  pub given : List PeerOut

abbrev pub has_kind : HandleKind → Option HandleKind → Bool
has_kind kind None = false
has_kind kind (Some other) = is_kind kind other

-- a message without a handle
abbrev pub passed_alone : Tracked → List ℕ → Passage → Passage
passed_alone tracked message now =
    record now { tracked = tracked; given = now.given ++ items.Bytes message ∷ [] }

-- the write ends that the peer holds, with what comes with a message
abbrev pub with_held : HandleKind → ℤ → Rids → Rids
with_held File rid held = held
with_held PipeWrite rid held = with_rid rid held

-- a message with the oldest rid that waits, which is of its kind
abbrev pub passed_with : Tracked → List ℕ → HandleKind → Passage → Table → List ℤ
    → Result Passage FrameCause
passed_with tracked message kind now handles [] = Err RidCount
passed_with tracked message kind now handles (rid ∷ rids) =
    if has_kind kind (kind_of_rid handles rid)
    then Ok (record {
      tracked = tracked;
      waiting = rids;
      held = with_held kind rid now.held;
      given =
          now.given ++ items.Handle (record { number = rid; kind = kind }) ∷ items.Bytes message
          ∷ [];
    })
    else Err RidCount

abbrev pub passed_by_kind : Option HandleKind → Tracked → List ℕ → Passage → Table
    → Result Passage FrameCause
passed_by_kind None tracked message now handles = Ok (passed_alone tracked message now)
passed_by_kind (Some kind) tracked message now handles =
    passed_with tracked message kind now handles now.waiting

-- one message: tracking goes first, then its rid
abbrev pub passed_step : Result Admission ObjectFault → Way → List ℕ → Passage → Table
    → Result Passage FrameCause
passed_step (Ok done) way message now handles =
    passed_by_kind (kind_carried way done.passed) done.objects message now handles
passed_step (Err fault) way message now handles = Err (PeerMessage fault)

abbrev pub and_then : Result Passage FrameCause → (Passage → Result Passage FrameCause)
    → Result Passage FrameCause
and_then (Ok now) next = next now
and_then (Err cause) next = Err cause

-- messages in order
abbrev pub pass_all : Way → Table → List (List ℕ) → Passage → Result Passage FrameCause
pass_all way handles [] now = Ok now
pass_all way handles (message ∷ messages) now =
    and_then (passed_step (step way now.tracked message) way message now handles)
    (pass_all way handles messages)

-- a rid that still waits behind the last message is refused
abbrev pub none_waits : List ℤ → Passage → Result Passage FrameCause
none_waits [] now = Ok now
none_waits (rid ∷ rids) now = Err RidCount

abbrev pub all_used : Result Passage FrameCause → Result Passage FrameCause
all_used result = and_then result (λ now. none_waits now.waiting now)

-- the messages of a PROTOCOL frame
abbrev pub passage_of : Tables → Taking → List ℕ → Result Passage FrameCause
passage_of tables taking bytes =
    all_used (pass_all (other_way tables.handles.side) tables.handles (cut bytes)
    (record {
      tracked = tables.objects.tracked;
      waiting = taking.waiting;
      held = taking.held;
      given = [];
    }))

-- ---- the causes

-- a rid may not be opened that is open, or that is this side's own
abbrev pub rid_cause : Tables → ℤ → Option FrameCause
rid_cause tables rid =
    if is_some (kind_of_rid tables.handles rid) || is_own tables.handles.side rid then Some RidInUse
    else None

-- all rids were opened by the other side
abbrev pub opened_cause : Tables → List ℤ → Option FrameCause
opened_cause tables rids =
    if list_any (λ rid. is_none (kind_of_rid tables.handles rid)) rids then Some RidUnknown
    else None

abbrev pub cause_in : Result Passage FrameCause → Option FrameCause
cause_in (Ok now) = None
cause_in (Err cause) = Some cause

-- the first cause to refuse a frame for what it says
abbrev pub content_fault : Tables → Taking → Frame → Option FrameCause
content_fault tables taking (Protocol bytes) = cause_in (passage_of tables taking bytes)
content_fault tables taking (Inject rids) = opened_cause tables rids
content_fault tables taking (OpenFile rid size) =
    or_else (rid_cause tables rid) (open_cause rid size taking.sizes)
content_fault tables taking (ExtendFile rid size) = extend_cause rid size taking.sizes
content_fault tables taking (Fill rid start end bytes) = fill_cause rid end taking.sizes
content_fault tables taking (OpenPipe rid) = rid_cause tables rid
content_fault tables taking frame = pipe_cause tables.pipes frame

-- ---- what a frame leaves

-- both halves' tables behind a frame, and what the peer is given of it
pub record Hearing : Type 0 where
  pub tables : Tables
  pub taking : Taking
  pub given : List PeerOut

abbrev pub with_tracked : Tracked → ObjectsState → ObjectsState
with_tracked tracked objects = record objects { tracked = tracked }

abbrev pub opened_as : ℤ → HandleKind → Tables → Tables
opened_as rid kind tables = record tables { handles = after_took tables.handles rid kind }

abbrev pub heard_messages : Tables → Taking → Result Passage FrameCause → Hearing
heard_messages tables taking (Ok now) = record {
  tables = record tables { objects = with_tracked now.tracked tables.objects };
  taking = record taking { waiting = now.waiting; held = now.held };
  given = now.given;
}
heard_messages tables taking (Err cause) = record { tables = tables; taking = taking; given = [] }

abbrev pub heard_size : Tables → Taking → ℤ → ℕ → PeerOut → Hearing
heard_size tables taking rid size item =
    record {
      tables = tables;
      taking = record taking { sizes = with_size rid size taking.sizes };
      given = item ∷ [];
    }

abbrev pub heard_of_pipe : Tables → Taking → Frame → Hearing
heard_of_pipe tables taking frame = record {
  tables = record tables { pipes = after_pipe_frame tables.pipes frame };
  taking = taking;
  given = option_to_list (option_map (λ item. items.Pipe item) (item_of_frame tables.pipes frame));
}

-- what a frame that is accepted leaves
abbrev pub heard : Tables → Taking → Frame → Hearing
heard tables taking (Protocol bytes) = heard_messages tables taking (passage_of tables taking bytes)
heard tables taking (Inject rids) =
    record {
      tables = tables;
      taking = record taking { waiting = taking.waiting ++ rids };
      given = [];
    }
heard tables taking (OpenFile rid size) =
    heard_size (opened_as rid File tables) taking rid size (items.Opened rid size)
heard tables taking (ExtendFile rid size) = heard_size tables taking rid size (items.Grown rid size)
heard tables taking (Fill rid start end bytes) =
    record { tables = tables; taking = taking; given = items.Filled rid start bytes ∷ [] }
heard tables taking (OpenPipe rid) = record {
  tables = record (opened_as rid PipeWrite tables) { pipes = with_other rid tables.pipes };
  taking = taking;
  given = [];
}
heard tables taking frame = heard_of_pipe tables taking frame
