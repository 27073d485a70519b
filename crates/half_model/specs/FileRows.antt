-- Worked rows of files, buffers and what waits: sizes that a client says, buffers that are gone
-- when they are committed, and handles and notes that come too late; the messages are those of
-- wayland.xml.
use Rattle.std.specs.Prelude.{◌≡◌, ℕ, List, [], ◌∷◌, ◌++◌, ℤ, pos, negsuc, take, drop, Some}
use Rattle.std.specs.Prelude.{None, codes}
use Rattle.wp_outside.specs.declared.kinds.HandleKind.TheVariants.{File}
use Rattle.wp_outside.specs.declared.kinds.Side.TheVariants.{Near}
use Rattle.wl_wire.specs.declared.arguments.Arg.TheVariants as arg
use Rattle.wl_wire.specs.Building.{built}
use Rattle.transfer_frames.specs.declared.frame.Frame.{Frame}
use Rattle.transfer_frames.specs.declared.frame.Frame.TheVariants as frames
use Rattle.half_model.specs.declared.causes.HalfFault.TheVariants as faults
use Rattle.half_model.specs.declared.causes.PeerCause.TheVariants as peers
use Rattle.half_model.specs.declared.items.PeerIn.{PeerIn}
use Rattle.half_model.specs.declared.items.PeerIn.TheVariants as items
use Rattle.half_model.specs.CauseRows.{pool, file_pool, fault_after, committed_with}
use Rattle.half_model.specs.FillRows.{all_words, resize, committed, Shown, shown}
use Rattle.half_model.specs.PairRows.{handle_of}
use Rattle.half_model.specs.Rows.{get_registry, bind, opening, create_buffer, attach, commit}
use Rattle.half_model.specs.Rows.{note_of, ran_items}
use Rattle.half_model.specs.SideRuns.{SideRun, first_run, takes_items, hears_frames}

-- a client whose copies are all zero
abbrev pub ran : List PeerIn → SideRun
ran given = takes_items (all_words 0) given (first_run Near)

-- ---- sizes

abbrev pub signed_pool : ℕ → ℤ → List ℕ
signed_pool id size = built 4 0 (arg.NewId id ∷ arg.Handle ∷ arg.Int size ∷ [])

-- the frames of a client that has bound wl_shm at id 4, behind those of its first two messages
abbrev pub frames_of_client : List PeerIn → List Frame
frames_of_client given =
    drop 2 (ran (items.Bytes get_registry ∷ items.Bytes (bind 2 (codes "wl_shm") 1 4) ∷ given)).made

-- a size below 0 counts as 0; a file that is passed again grows where the size is greater, and a
-- smaller size says nothing
pub record SaidSizes : Type 0 where
  pub negative : frames_of_client
      (handle_of (pos 3) File ∷ items.Bytes (signed_pool 5 (negsuc 4)) ∷ [])
      ≡ frames.OpenFile (pos 1) 0 ∷ frames.Inject (pos 1 ∷ [])
      ∷ frames.Protocol (signed_pool 5 (negsuc 4)) ∷ []
  pub again : frames_of_client
      (file_pool 5 (pos 3) 64 ++ file_pool 6 (pos 8) 64 ++ file_pool 7 (pos 3) 128
      ++ file_pool 8 (pos 3) 100)
      ≡ frames.OpenFile (pos 1) 64 ∷ frames.Inject (pos 1 ∷ []) ∷ frames.Protocol (pool 5 64)
      ∷ frames.OpenFile (pos 2) 64 ∷ frames.Inject (pos 2 ∷ []) ∷ frames.Protocol (pool 6 64)
      ∷ frames.ExtendFile (pos 1) 128 ∷ frames.Inject (pos 1 ∷ []) ∷ frames.Protocol (pool 7 128)
      ∷ frames.Inject (pos 1 ∷ []) ∷ frames.Protocol (pool 8 100) ∷ []
  pub smaller : drop 8 (ran (opening 64 4 4 16 ++ items.Bytes (resize 32) ∷ [])).made
      ≡ frames.Protocol (resize 32) ∷ []

-- ---- buffers

abbrev pub attach_null : List ℕ
attach_null = built 5 1 (arg.Object 0 ∷ arg.Int (pos 0) ∷ arg.Int (pos 0) ∷ [])

abbrev pub destroy_buffer : List ℕ
destroy_buffer = built 7 0 []

-- wl_display.delete_id
abbrev pub delete_buffer : Frame
delete_buffer = frames.Protocol (built 1 1 (arg.Uint 7 ∷ []))

abbrev pub shows_none : ℕ → Shown
shows_none made = record { fills = []; made = made; sum = Some 0; fault = None }

-- wl_surface.frame, whose callback takes the buffer's id
abbrev pub frame_callback : List ℕ
frame_callback = built 5 3 (arg.NewId 7 ∷ [])

-- behind the destruction of the attached buffer and its deletion, so that its id is free
abbrev pub freed : List PeerIn → Shown
freed given =
    shown (takes_items (all_words 0) given
    (hears_frames (delete_buffer ∷ [])
    (ran (opening 64 4 4 16 ++ items.Bytes attach ∷ items.Bytes destroy_buffer ∷ []))))

abbrev pub made_again : List PeerIn → Shown
made_again given = freed (items.Bytes (create_buffer 4 4 16) ∷ given)

-- nothing is due of a buffer that was destroyed, though another one lives at its id, nor without
-- one
pub record GoneBuffers : Type 0 where
  pub none : shown (ran (opening 64 4 4 16 ++ items.Bytes attach ∷ items.Bytes attach_null
      ∷ committed (8 ∷ []))) ≡ shows_none 11
  pub destroyed : shown (ran
      (opening 64 4 4 16 ++ items.Bytes attach ∷ items.Bytes destroy_buffer ∷ committed (8 ∷ [])))
      ≡ shows_none 11
  pub other : made_again (committed (8 ∷ [])) ≡ shows_none 12
  pub callback : freed (items.Bytes frame_callback ∷ committed (8 ∷ [])) ≡ shows_none 12
  pub attached : made_again (items.Bytes attach ∷ committed (8 ∷ []))
      ≡ record { fills = (0, 64) ∷ []; made = 14; sum = Some 0; fault = None }

-- ---- what waits

-- a handle and a note serve a message whose last byte comes behind them, and no earlier one
pub record Waiting : Type 0 where
  pub between : fault_after
      (items.Bytes (take 15 (pool 5 64)) ∷ handle_of (pos 1) File
      ∷ items.Bytes (drop 15 (pool 5 64)) ∷ []) ≡ None
  pub behind : fault_after (items.Bytes (pool 5 64) ∷ handle_of (pos 1) File ∷ [])
      ≡ Some (faults.Peer 2 peers.HandleMissing)
  pub note : (ran_items (all_words 0)
      (opening 64 4 4 16 ++ items.Bytes attach ∷ items.Bytes commit ∷ note_of (8 ∷ []) ∷ [])).fault
      ≡ Some (faults.Peer 7 peers.NoteMissing)
  pub oldest : committed_with (note_of (8 ∷ []) ∷ note_of (7 ∷ []) ∷ []) ≡ None
