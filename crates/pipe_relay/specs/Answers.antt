-- What the calls of a side's pipes answer, by what they hold: an item or a frame passes, is dropped
-- since the reader closed its end, or is refused; this project's own.
use Rattle.std.specs.Prelude.{◌≡◌, true, false, Option, Some, None, Result, Ok, Err}
use Rattle.wp_outside.specs.declared.pipe_items.PipeItem.{PipeItem}
use Rattle.transfer_frames.specs.declared.cause.FrameCause.{FrameCause}
use Rattle.transfer_frames.specs.declared.cause.FrameCause.TheVariants as causes
use Rattle.transfer_frames.specs.declared.frame.Frame.{Frame}
use Rattle.pipe_relay.specs.declared.faults.PipeFault.{PipeFault}
use Rattle.pipe_relay.specs.declared.faults.PipeFault.TheVariants.{Unknown, Shut, Memory}
use Rattle.pipe_relay.specs.Pipes.{PipesState, is_unknown, frame_of_item, pipe_cause, item_of_frame}

-- why a frame is refused
abbrev pub IsCause : PipeFault → Option FrameCause → Type 0
IsCause Unknown cause = cause ≡ Some causes.PipeUnknown
IsCause Shut cause = cause ≡ Some causes.PipeShut
IsCause Memory cause = ⊥

-- a test that takes no memory
abbrev pub Tests : {X : Type 0} → Result X PipeFault → Option FrameCause → Type 0
Tests (Ok done) cause = cause ≡ None
Tests (Err fault) cause = IsCause fault cause

-- of an item of this side's peer; none is refused as shut, and memory may run out at each item that
-- is not refused
abbrev pub AnswersItem : PipesState → PipeItem → Result (Option Frame) PipeFault → Type 0
AnswersItem pipes item (Ok made) =
    (is_unknown pipes item ≡ false) × (made ≡ frame_of_item pipes item)
AnswersItem pipes item (Err Unknown) = is_unknown pipes item ≡ true
AnswersItem pipes item (Err Shut) = ⊥
AnswersItem pipes item (Err Memory) = is_unknown pipes item ≡ false

-- of a frame of the other side; want of memory may come at any time
abbrev pub AnswersFrame : PipesState → Frame → Result (Option PipeItem) PipeFault → Type 0
AnswersFrame pipes frame (Ok given) =
    (pipe_cause pipes frame ≡ None) × (given ≡ item_of_frame pipes frame)
AnswersFrame pipes frame (Err Unknown) = pipe_cause pipes frame ≡ Some causes.PipeUnknown
AnswersFrame pipes frame (Err Shut) = pipe_cause pipes frame ≡ Some causes.PipeShut
AnswersFrame pipes frame (Err Memory) = Unit {0}
