-- Worked rows with both sides: a keymap, a pipe that its writer ends, and a pipe that its reader
-- shuts; the messages are those of wayland.xml, frames and pipes' numbers are this project's own.
use Rattle.std.specs.Prelude.{◌≡◌, ℕ, true, false, List, [], ◌∷◌, ◌++◌, ℤ, pos, negsuc, map, sum}
use Rattle.std.specs.Prelude.{replicate, Option, Some, None, option_map, codes}
use Rattle.wp_outside.specs.declared.kinds.HandleKind.{HandleKind}
use Rattle.wp_outside.specs.declared.kinds.HandleKind.TheVariants.{File, PipeWrite}
use Rattle.wp_outside.specs.declared.kinds.Side.TheVariants.{Near, Far}
use Rattle.wl_wire.specs.declared.arguments.Arg.TheVariants as arg
use Rattle.wl_wire.specs.Building.{built}
use Rattle.transfer_frames.specs.declared.cause.FrameCause.{FrameCause}
use Rattle.transfer_frames.specs.declared.frame.Frame.{Frame}
use Rattle.transfer_frames.specs.declared.frame.Frame.TheVariants as frames
use Rattle.half_model.specs.declared.causes.HalfFault.{HalfFault}
use Rattle.half_model.specs.declared.items.PeerIn.{PeerIn}
use Rattle.half_model.specs.declared.items.PeerIn.TheVariants as items
use Rattle.half_model.specs.declared.items.PeerOut.{PeerOut}
use Rattle.half_model.specs.declared.items.PeerOut.TheVariants as outs
use Rattle.wp_outside.specs.declared.pipe_items.PipeItem.TheVariants as pipe_items
use Rattle.half_model.specs.Filling.{words_bytes}
use Rattle.half_model.specs.FillRows.{all_words}
use Rattle.half_model.specs.Meaning.{flow}
use Rattle.mirror_pools.specs.Meaning.{mirror}
use Rattle.half_model.specs.Rows.{get_registry, bind, eye_of}
use Rattle.half_model.specs.SideRuns.{SideRun, PairRun, first_pair, from_side}

-- ---- items

abbrev pub handle_of : ℤ → HandleKind → PeerIn
handle_of number kind = items.Handle (record { number = number; kind = kind })

abbrev pub note_on : ℤ → List ℕ → PeerIn
note_on number segments =
    items.Note (record { files = record { number = number; eyes = map eye_of segments } ∷ [] })

-- ---- what a row shows

-- what one side made and what its peer was given, while nothing was refused
pub record Told : Type 0 where
  pub made : List Frame
  pub given : List PeerOut
  pub fault : Option HalfFault
  pub refused : Option FrameCause

abbrev pub told : SideRun → Told
told run = record { made = run.made; given = run.given; fault = run.fault; refused = run.refused }

abbrev pub tells : List Frame → List PeerOut → Told
tells made given = record { made = made; given = given; fault = None; refused = None }

-- each message in a frame of its own, and each as the other peer is given it
abbrev pub carried : List (List ℕ) → List Frame
carried messages = map (λ message. frames.Protocol message) messages

abbrev pub received : List (List ℕ) → List PeerOut
received messages = map (λ message. outs.Bytes message) messages

-- ---- a keymap

abbrev pub keyboard_requests : List (List ℕ)
keyboard_requests = get_registry ∷ bind 1 (codes "wl_seat") 7 3 ∷ built 3 1 (arg.NewId 4 ∷ []) ∷ []

abbrev pub keymap : ℕ → List ℕ
keymap size = built 4 0 (arg.Uint 1 ∷ arg.Handle ∷ arg.Uint size ∷ [])

abbrev pub keymap_pair : PairRun
keymap_pair =
    from_side Far (all_words 7)
    (handle_of (negsuc 0) File ∷ note_on (negsuc 0) (8 ∷ []) ∷ items.Bytes (keymap 60) ∷ [])
    (from_side Near (all_words 0)
    (map (λ message. items.Bytes message) keyboard_requests) first_pair)

abbrev pub keymap_bytes : List ℕ
keymap_bytes = words_bytes (replicate 8 7)

-- four frames of the compositor's side: all blocks of the told size are filled
pub record KeymapRow : Type 0 where
  pub near : told keymap_pair.near ≡ tells
      (carried keyboard_requests)
      (outs.Opened (negsuc 0) 60
      ∷ outs.Filled (negsuc 0) 0 keymap_bytes
      ∷ outs.Handle (record { number = negsuc 0; kind = File })
      ∷ outs.Bytes (keymap 60)
      ∷ [])
  pub far : told keymap_pair.far ≡ tells
      (frames.OpenFile (negsuc 0) 60
      ∷ frames.Inject (negsuc 0 ∷ [])
      ∷ frames.Fill (negsuc 0) 0 64 keymap_bytes
      ∷ frames.Protocol (keymap 60)
      ∷ [])
      (received keyboard_requests)
  pub sum : option_map sum (mirror (negsuc 0) keymap_pair.far.made) ≡ Some 56

-- ---- a pipe

abbrev pub offer_requests : List (List ℕ)
offer_requests =
    get_registry
    ∷ bind 1 (codes "wl_data_device_manager") 3 3
    ∷ bind 2 (codes "wl_seat") 7 4
    ∷ built 3 1 (arg.NewId 5 ∷ arg.Object 4 ∷ [])
    ∷ []

abbrev pub offer_events : List (List ℕ)
offer_events =
    built 5 0 (arg.NewId 4278190080 ∷ [])
    ∷ built 4278190080 0 (arg.Str (codes "text/plain") ∷ [])
    ∷ []

abbrev pub receive : List ℕ
receive = built 4278190080 1 (arg.Str (codes "text/plain") ∷ arg.Handle ∷ [])

abbrev pub all_bytes : List (List ℕ) → List PeerIn
all_bytes messages = map (λ message. items.Bytes message) messages

-- the application asks for what is offered, and gives the write end of its pipe 1
abbrev pub asked_pair : PairRun
asked_pair =
    from_side Near (all_words 0) (handle_of (pos 1) PipeWrite ∷ items.Bytes receive ∷ [])
    (from_side Far (all_words 0) (all_bytes offer_events)
    (from_side Near (all_words 0) (all_bytes offer_requests) first_pair))

-- the compositor writes two bytes and closes its end
abbrev pub written : PairRun → PairRun
written pair =
    from_side Far (all_words 0)
    (items.Pipe (pipe_items.Bytes (pos 1) (codes "hi")) ∷ items.Pipe (pipe_items.End (pos 1))
    ∷ []) pair

abbrev pub asked_frames : List Frame
asked_frames =
    carried offer_requests ++ frames.OpenPipe (pos 1) ∷ frames.Inject (pos 1 ∷ [])
    ∷ frames.Protocol receive ∷ []

abbrev pub asked_items : List PeerOut
asked_items =
    received offer_requests ++ outs.Handle (record { number = pos 1; kind = PipeWrite })
    ∷ outs.Bytes receive ∷ []

-- seven frames of the application's side and four of the compositor's: the bytes and the end reach
-- the application
pub record PipeRow : Type 0 where
  pub near : told (written asked_pair).near ≡ tells
      asked_frames
      (received offer_events
      ++ outs.Pipe (pipe_items.Bytes (pos 1) (codes "hi")) ∷ outs.Pipe (pipe_items.End (pos 1))
      ∷ [])
  pub far : told (written asked_pair).far ≡ tells
      (carried offer_events ++ frames.PipeTransfer (pos 1) (codes "hi") ∷ frames.PipeShutW (pos 1)
      ∷ [])
      asked_items
  pub flow : flow (pos 1) (written asked_pair).far.made
      ≡ record { bytes = codes "hi"; ended = true; shut = false }

-- ---- a pipe that its reader shuts

abbrev pub shut_pair : PairRun
shut_pair =
    written (from_side Near (all_words 0) (items.Pipe (pipe_items.Shut (pos 1)) ∷ []) asked_pair)

-- the application closes its end before: eight frames of its side and two of the compositor's, and
-- no byte passes
pub record ShutPipeRow : Type 0 where
  pub near : told shut_pair.near ≡ tells
      (asked_frames ++ frames.PipeShutR (pos 1) ∷ [])
      (received offer_events)
  pub far : told shut_pair.far ≡ tells
      (carried offer_events)
      (asked_items ++ outs.Pipe (pipe_items.Shut (pos 1)) ∷ [])
  pub flow : flow (pos 1) shut_pair.far.made ≡ record { bytes = []; ended = false; shut = false }
