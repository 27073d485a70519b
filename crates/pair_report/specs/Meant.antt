-- What the frames of the other side mean for a report: the messages of the Wayland protocol in
-- them, the rids that these carry, the mirrors of the other side's files, and what came of pipes;
-- all but the messages is this project's own.
use Rattle.std.specs.Prelude.{ℕ, true, ℤ, List, [], ◌∷◌, ◌++◌, Option, Some, None}
use Rattle.std.specs.BTreeMap.{insert_entry, is_at}
use Rattle.std.specs.Map.{lookup}
use Rattle.std.specs.Ordering.{int_cmp}
use Rattle.std.specs.List.{flat_map}
use Rattle.wl_wire.specs.Wire.{cut}
use Rattle.transfer_frames.specs.declared.frame.Frame.{Frame}
use Rattle.transfer_frames.specs.declared.frame.Frame.TheVariants.{Protocol, Inject, OpenFile}
use Rattle.transfer_frames.specs.declared.frame.Frame.TheVariants.{ExtendFile, Fill, OpenPipe}
use Rattle.transfer_frames.specs.declared.frame.Frame.TheVariants.{PipeTransfer, PipeShutR}
use Rattle.transfer_frames.specs.declared.frame.Frame.TheVariants.{PipeShutW}
use Rattle.mirror_pools.specs.Laws.{after_frames}
use Rattle.mirror_pools.specs.Mirrors.{MirrorsState, with_opened, with_grown, with_filled}
use Rattle.pipe_relay.specs.Pipes.{Rids, with_rid}
use Rattle.half_model.specs.Meaning.{Flow, no_flow}
use Rattle.half_model.specs.PeerState.{flow_at}
use Rattle.half_model.specs.Story.{messages_in}

-- ---- rids

abbrev pub rids_of : Frame → List ℤ
rids_of (Inject rids) = rids
rids_of frame = []

abbrev pub rids_in : List Frame → List ℤ
rids_in frames = flat_map rids_of frames

-- the pipes that were opened
abbrev pub with_open : Frame → Rids → Rids
with_open (OpenPipe rid) opened = with_rid rid opened
with_open frame opened = opened

abbrev pub opened_from : List Frame → Rids → Rids
opened_from [] opened = opened
opened_from (frame ∷ frames) opened = opened_from frames (with_open frame opened)

-- the pipes whose reading ends were closed
abbrev pub with_shut : Frame → Rids → Rids
with_shut (PipeShutR rid) shut = with_rid rid shut
with_shut frame shut = shut

abbrev pub shut_from : List Frame → Rids → Rids
shut_from [] shut = shut
shut_from (frame ∷ frames) shut = shut_from frames (with_shut frame shut)

-- ---- pipes

-- what came of pipes, by rising rids
abbrev pub Flows : Type 0
Flows = List (ℤ × Flow)

-- one of them changed, or begun
abbrev pub on_flow : ℤ → (Flow → Flow) → Flows → Flows
on_flow rid change flows = insert_entry int_cmp flows rid (change (flow_at rid flows))

abbrev pub with_piece : List ℕ → Flow → Flow
with_piece piece flow = record flow { bytes = flow.bytes ++ piece }

abbrev pub with_end : Flow → Flow
with_end flow = record flow { ended = true }

-- what comes from the writing ends: bytes and the end
abbrev pub with_flow : Frame → Flows → Flows
with_flow (PipeTransfer rid piece) flows = on_flow rid (with_piece piece) flows
with_flow (PipeShutW rid) flows = on_flow rid with_end flows
with_flow frame flows = flows

abbrev pub flows_from : List Frame → Flows → Flows
flows_from [] flows = flows
flows_from (frame ∷ frames) flows = flows_from frames (with_flow frame flows)

-- a pipe that is not among them begins
abbrev pub begun_if : Option Flow → ℤ → Flows → Flows
begun_if None rid flows = insert_entry int_cmp flows rid no_flow
begun_if (Some flow) rid flows = flows

abbrev pub with_pipe : ℤ → Flows → Flows
with_pipe rid flows = begun_if (lookup (is_at (int_cmp rid)) flows) rid flows

-- ---- all of it

pub record Meant : Type 0 where
  pub messages : List (List ℕ)
  -- the rids that the messages take, one after another
  pub rids : List ℤ
  pub mirrors : MirrorsState
  pub opened : Rids
  pub flows : Flows

abbrev pub no_meaning : Meant
no_meaning = record { messages = []; rids = []; mirrors = []; opened = []; flows = [] }

-- with one more frame
abbrev pub with_frame : Frame → Meant → Meant
with_frame (Protocol bytes) meant = record meant { messages = meant.messages ++ cut bytes }
with_frame (Inject rids) meant = record meant { rids = meant.rids ++ rids }
with_frame (OpenFile rid size) meant =
    record meant { mirrors = with_opened rid size meant.mirrors }
with_frame (ExtendFile rid size) meant =
    record meant { mirrors = with_grown rid size meant.mirrors }
with_frame (Fill rid start end bytes) meant =
    record meant { mirrors = with_filled rid start bytes meant.mirrors }
with_frame (OpenPipe rid) meant = record meant { opened = with_rid rid meant.opened }
with_frame (PipeTransfer rid piece) meant =
    record meant { flows = on_flow rid (with_piece piece) meant.flows }
with_frame (PipeShutW rid) meant = record meant { flows = on_flow rid with_end meant.flows }
with_frame frame meant = meant

abbrev pub with_frames : List Frame → Meant → Meant
with_frames [] meant = meant
with_frames (frame ∷ frames) meant = with_frames frames (with_frame frame meant)

-- what frames mean
abbrev pub meaning : List Frame → Meant
meaning frames = record {
  messages = messages_in frames;
  rids = rids_in frames;
  mirrors = after_frames frames [];
  opened = opened_from frames [];
  flows = flows_from frames [];
}
