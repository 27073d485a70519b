-- Worked rows of pipes that are refused: an end that the peer was not given, or that it closed. The
-- message that passes a pipe is wl_data_offer.receive of wayland.xml; all else is this project's
-- own.
use Rattle.std.specs.Prelude.{◌≡◌, List, [], ◌∷◌, ℤ, pos, drop, Option, Some, None}
use Rattle.wp_outside.specs.declared.kinds.HandleKind.TheVariants.{PipeWrite}
use Rattle.wp_outside.specs.declared.kinds.Side.TheVariants.{Near, Far}
use Rattle.transfer_frames.specs.declared.cause.FrameCause.TheVariants as causes
use Rattle.transfer_frames.specs.declared.frame.Frame.TheVariants as frames
use Rattle.half_model.specs.declared.causes.HalfFault.{HalfFault}
use Rattle.half_model.specs.declared.causes.HalfFault.TheVariants as faults
use Rattle.half_model.specs.declared.causes.PeerCause.TheVariants.{PipeUnknown}
use Rattle.half_model.specs.declared.items.PeerIn.{PeerIn}
use Rattle.half_model.specs.declared.items.PeerIn.TheVariants as items
use Rattle.wp_outside.specs.declared.pipe_items.PipeItem.TheVariants as pipe_items
use Rattle.half_model.specs.CauseRows.{far_behind, causes_of}
use Rattle.half_model.specs.FillRows.{all_words}
use Rattle.half_model.specs.PairRows.{handle_of, all_bytes, offer_requests, offer_events, receive}
use Rattle.half_model.specs.SideRuns.{SideRun, PairRun, first_pair, from_side, takes_items}

-- an application's pipe 7, which is passed with the rid 1
abbrev pub passed_pair : PairRun
passed_pair =
    from_side Near (all_words 0) (handle_of (pos 7) PipeWrite ∷ items.Bytes receive ∷ [])
    (from_side Far (all_words 0) (all_bytes offer_events)
    (from_side Near (all_words 0) (all_bytes offer_requests) first_pair))

abbrev pub put : ℤ → PeerIn
put rid = items.Pipe (pipe_items.Bytes rid (0 ∷ []))

abbrev pub end : ℤ → PeerIn
end rid = items.Pipe (pipe_items.End rid)

abbrev pub shut : ℤ → PeerIn
shut number = items.Pipe (pipe_items.Shut number)

-- the fault of a side whose peer goes on so
abbrev pub fault_with : List PeerIn → SideRun → Option HalfFault
fault_with given run = (takes_items (all_words 0) given run).fault

-- the writer names the rid, once it holds its end and while it has not closed it
pub record WriterRows : Type 0 where
  pub early : fault_with (put (pos 1) ∷ []) (far_behind (frames.OpenPipe (pos 1) ∷ []))
      ≡ Some (faults.Peer 0 PipeUnknown)
  pub number : fault_with (put (pos 7) ∷ []) passed_pair.far ≡ Some (faults.Peer 2 PipeUnknown)
  pub held : fault_with (put (pos 1) ∷ end (pos 1) ∷ []) passed_pair.far ≡ None
  pub twice : fault_with (end (pos 1) ∷ end (pos 1) ∷ []) passed_pair.far
      ≡ Some (faults.Peer 2 PipeUnknown)
  pub behind : fault_with (end (pos 1) ∷ put (pos 1) ∷ []) passed_pair.far
      ≡ Some (faults.Peer 2 PipeUnknown)

-- the same pair, once the reader has shut its end
abbrev pub shut_end : PairRun
shut_end = from_side Near (all_words 0) (shut (pos 7) ∷ []) passed_pair

-- an end that is dropped is closed all the same
pub record DroppedRows : Type 0 where
  pub once : fault_with (put (pos 1) ∷ end (pos 1) ∷ []) shut_end.far ≡ None
  pub behind : fault_with (end (pos 1) ∷ put (pos 1) ∷ []) shut_end.far
      ≡ Some (faults.Peer 2 PipeUnknown)

-- the reader names its own number, while it has not closed its end
pub record ReaderRows : Type 0 where
  pub rid : fault_with (shut (pos 1) ∷ []) passed_pair.near ≡ Some (faults.Peer 5 PipeUnknown)
  pub number : drop 7 (takes_items (all_words 0) (shut (pos 7) ∷ []) passed_pair.near).made
      ≡ frames.PipeShutR (pos 1) ∷ []
  pub twice : fault_with (shut (pos 7) ∷ shut (pos 7) ∷ []) passed_pair.near
      ≡ Some (faults.Peer 5 PipeUnknown)

-- behind the writer's end nothing more comes of the pipe
pub record EndRows : Type 0 where
  pub before : causes_of passed_pair.near
      (frames.PipeTransfer (pos 1) (0 ∷ []) ∷ frames.PipeShutW (pos 1)
      ∷ frames.PipeTransfer (pos 2) (0 ∷ []) ∷ [])
      ≡ None ∷ None ∷ Some causes.PipeUnknown ∷ []
  pub behind : causes_of (from_side Far (all_words 0) (end (pos 1) ∷ []) passed_pair).near
      (frames.PipeTransfer (pos 1) (0 ∷ []) ∷ frames.PipeShutW (pos 1)
      ∷ frames.PipeTransfer (pos 2) (0 ∷ []) ∷ [])
      ≡ Some causes.PipeShut ∷ Some causes.PipeShut ∷ Some causes.PipeUnknown ∷ []
