-- Worked rows of refusals: which cause is told where several would do, of a peer's messages and of
-- the other side's frames; the messages are those of wayland.xml, causes and limits are this
-- project's own.
use Rattle.std.specs.Prelude.{◌≡◌, ℕ, List, [], ◌∷◌, ◌++◌, ℤ, pos, negsuc, map, replicate, Option}
use Rattle.std.specs.Prelude.{Some, None, codes}
use Rattle.wp_outside.specs.declared.kinds.HandleKind.TheVariants.{File, PipeWrite}
use Rattle.wp_outside.specs.declared.kinds.Side.TheVariants.{Far}
use Rattle.wl_wire.specs.declared.arguments.Arg.TheVariants as arg
use Rattle.wl_wire.specs.declared.faults.ObjectFault.TheVariants.{IdInUse, UnknownObject}
use Rattle.wl_wire.specs.Building.{built}
use Rattle.transfer_frames.specs.declared.cause.FrameCause.{FrameCause}
use Rattle.transfer_frames.specs.declared.cause.FrameCause.TheVariants as causes
use Rattle.transfer_frames.specs.declared.frame.Frame.{Frame}
use Rattle.transfer_frames.specs.declared.frame.Frame.TheVariants.{Protocol, Inject, OpenFile}
use Rattle.transfer_frames.specs.declared.frame.Frame.TheVariants.{ExtendFile, Fill, OpenPipe}
use Rattle.transfer_frames.specs.declared.frame.Frame.TheVariants.{PipeTransfer, PipeShutR}
use Rattle.transfer_frames.specs.declared.frame.Frame.TheVariants.{PipeShutW}
use Rattle.half_model.specs.declared.causes.HalfFault.{HalfFault}
use Rattle.half_model.specs.declared.causes.HalfFault.TheVariants as faults
use Rattle.half_model.specs.declared.causes.Limit.TheVariants as limits
use Rattle.half_model.specs.declared.causes.PeerCause.TheVariants as peers
use Rattle.half_model.specs.declared.items.PeerIn.{PeerIn}
use Rattle.half_model.specs.declared.items.PeerIn.TheVariants as items
use Rattle.half_model.specs.Content.{content_fault}
use Rattle.half_model.specs.FillRows.{all_words}
use Rattle.half_model.specs.PairRows.{handle_of}
use Rattle.half_model.specs.Rows.{get_registry, bind, opening, attach, commit, note_of, eye_of}
use Rattle.half_model.specs.Rows.{ran_items}
use Rattle.half_model.specs.SideRuns.{SideRun, first_run, hears_frames}

-- ---- a peer's messages

-- a pool of this size at this id
abbrev pub pool : ℕ → ℕ → List ℕ
pool id size = built 4 0 (arg.NewId id ∷ arg.Handle ∷ arg.Int (pos size) ∷ [])

-- a pool of a file of its own
abbrev pub file_pool : ℕ → ℤ → ℕ → List PeerIn
file_pool id number size = handle_of number File ∷ items.Bytes (pool id size) ∷ []

-- the fault of a client that has bound wl_shm at id 4 with two messages, and goes on so
abbrev pub fault_after : List PeerIn → Option HalfFault
fault_after given =
    (ran_items (all_words 0) (items.Bytes get_registry ∷ items.Bytes (bind 2 (codes "wl_shm") 1 4)
    ∷ given)).fault

-- four pools of the greatest size
abbrev pub full : List PeerIn
full =
    file_pool 5 (pos 1) 67108864
    ++ file_pool 6 (pos 2) 67108864
    ++ file_pool 7 (pos 3) 67108864
    ++ file_pool 8 (pos 4) 67108864

-- the causes of a message come in this order: tracking, the handle, the limits, the note
pub record MessageCauses : Type 0 where
  pub object : fault_after (items.Bytes (pool 4 67108865) ∷ [])
      ≡ Some (faults.Peer 2 (peers.Object IdInUse))
  pub missing : fault_after (items.Bytes (pool 5 67108865) ∷ [])
      ≡ Some (faults.Peer 2 peers.HandleMissing)
  pub kind : fault_after (handle_of (pos 1) PipeWrite ∷ items.Bytes (pool 5 67108865) ∷ [])
      ≡ Some (faults.Peer 2 peers.HandleKind)
  pub sign : fault_after (handle_of (negsuc 0) File ∷ items.Bytes (pool 5 67108865) ∷ [])
      ≡ Some (faults.Peer 2 peers.HandleKind)
  pub file : fault_after (full ++ file_pool 9 (pos 5) 67108865) ≡ Some (faults.Limit limits.File)
  pub files : fault_after (full ++ file_pool 9 (pos 5) 1) ≡ Some (faults.Limit limits.Files)
  pub again : fault_after (full ++ file_pool 9 (pos 4) 67108864) ≡ None

-- a client with one buffer that commits with this note
abbrev pub committed_with : List PeerIn → Option HalfFault
committed_with note =
    (ran_items (all_words 0) (opening 64 4 4 16 ++ items.Bytes attach ∷ note ++ items.Bytes commit
    ∷ [])).fault

-- a note with eyes of two files, of which the second is the one that is filled
abbrev pub two_files : List ℕ → List ℕ → PeerIn
two_files others segments = items.Note (record {
  files =
      record { number = pos 2; eyes = map eye_of others }
      ∷ record { number = pos 1; eyes = map eye_of segments }
      ∷ [];
})

-- the eyes of the file that is filled have to cover its blocks; those of another file say nothing
pub record NoteCauses : Type 0 where
  pub none : committed_with [] ≡ Some (faults.Peer 7 peers.NoteMissing)
  pub short : committed_with (note_of (7 ∷ []) ∷ []) ≡ Some (faults.Peer 7 peers.NoteMissing)
  pub whole : committed_with (note_of (7 ∷ 1 ∷ []) ∷ []) ≡ None
  pub other : committed_with (two_files (8 ∷ []) (7 ∷ []) ∷ [])
      ≡ Some (faults.Peer 7 peers.NoteMissing)
  pub second : committed_with (two_files (1 ∷ []) (8 ∷ []) ∷ []) ≡ None

-- ---- the other side's frames

-- the compositor's side behind these frames
abbrev pub far_behind : List Frame → SideRun
far_behind frames = hears_frames frames (first_run Far)

-- why each of these frames would be refused next
abbrev pub causes_of : SideRun → List Frame → List (Option FrameCause)
causes_of run frames = map (content_fault run.tables run.taking) frames

-- five files, with one rid that waits, and a pipe that was ended
abbrev pub heard_before : List Frame
heard_before =
    OpenFile (pos 1) 60
    ∷ OpenFile (pos 2) 67108864
    ∷ OpenFile (pos 3) 67108864
    ∷ OpenFile (pos 4) 67108864
    ∷ OpenFile (pos 5) 67108800
    ∷ Inject (pos 1 ∷ [])
    ∷ []

pub record FrameCauses : Type 0 where
  pub files : causes_of (far_behind heard_before) (
      OpenFile (pos 1) 67108865
      ∷ OpenFile (negsuc 0) 0
      ∷ OpenFile (pos 6) 67108865
      ∷ OpenFile (pos 6) 5
      ∷ OpenFile (pos 6) 4
      ∷ OpenPipe (pos 1)
      ∷ OpenPipe (pos 6)
      ∷ [])
      ≡ Some causes.RidInUse ∷ Some causes.RidInUse ∷ Some causes.FileTooLarge
      ∷ Some causes.FilesTooLarge ∷ None
      ∷ Some causes.RidInUse ∷ None ∷ []
  pub sizes : causes_of (far_behind heard_before) (
      ExtendFile (pos 6) 1
      ∷ ExtendFile (pos 1) 59
      ∷ ExtendFile (pos 1) 60
      ∷ ExtendFile (pos 1) 67108865
      ∷ ExtendFile (pos 1) 65
      ∷ Fill (pos 6) 0 64 (replicate 64 0)
      ∷ Fill (pos 1) 0 128 (replicate 128 0)
      ∷ Fill (pos 1) 0 64 (replicate 64 0)
      ∷ [])
      ≡ Some causes.RidUnknown ∷ Some causes.ExtendSmaller ∷ None ∷ Some causes.FileTooLarge
      ∷ Some causes.FilesTooLarge
      ∷ Some causes.RidUnknown ∷ Some causes.FillOutside ∷ None ∷ []
  pub rids : causes_of (far_behind heard_before) (
      Inject (pos 2 ∷ pos 6 ∷ [])
      ∷ Inject (pos 2 ∷ [])
      ∷ Protocol get_registry
      ∷ Protocol (built 9 0 [])
      ∷ [])
      ≡ Some causes.RidUnknown ∷ None ∷ Some causes.RidCount
      ∷ Some (causes.PeerMessage UnknownObject) ∷ []
  pub none_waits : causes_of
      (far_behind (Protocol get_registry ∷ Protocol (bind 2 (codes "wl_shm") 1 4) ∷ []))
      (Protocol (pool 5 64) ∷ Protocol (pool 4 64) ∷ [])
      ≡ Some causes.RidCount ∷ Some (causes.PeerMessage IdInUse) ∷ []
  pub pipes : causes_of (far_behind (OpenPipe (pos 1) ∷ [])) (
      PipeTransfer (pos 1) (0 ∷ [])
      ∷ PipeShutW (pos 1)
      ∷ PipeShutR (pos 1)
      ∷ PipeShutR (pos 2)
      ∷ [])
      ≡ Some causes.PipeUnknown ∷ Some causes.PipeUnknown ∷ None ∷ Some causes.PipeUnknown ∷ []
  pub shut : causes_of (far_behind (OpenPipe (pos 1) ∷ PipeShutR (pos 1) ∷ []))
      (PipeShutR (pos 1) ∷ [])
      ≡ Some causes.PipeShut ∷ []
