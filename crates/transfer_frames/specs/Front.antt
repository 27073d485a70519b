-- What stands at the front of a stream of bytes: a frame, the beginning of one, or a fault.
use Rattle.std.specs.Prelude.{◌≡◌, ℕ, ◌≤◌, nat_lt, if◌then◌else◌, List, [], length, take, drop}
use Rattle.std.specs.Prelude.{Option, Some, None, Result, Ok, Err, IsSome, map}
use Rattle.transfer_frames.specs.declared.frame.Frame.{Frame}
use Rattle.transfer_frames.specs.declared.frame.Frame.TheVariants as frames
use Rattle.transfer_frames.specs.declared.cause.FrameCause.{FrameCause}
use Rattle.transfer_frames.specs.declared.cause.DecodeFault.{DecodeFault}
use Rattle.transfer_frames.specs.declared.cause.DecodeFault.TheVariants as faults
use Rattle.transfer_frames.specs.declared.kinds.FrameType.{FrameType}
use Rattle.transfer_frames.specs.declared.kinds.FrameType.TheVariants.{Protocol, Inject, OpenFile}
use Rattle.transfer_frames.specs.declared.kinds.FrameType.TheVariants.{ExtendFile, Fill, OpenPipe}
use Rattle.transfer_frames.specs.declared.kinds.FrameType.TheVariants.{PipeTransfer, PipeShutR}
use Rattle.transfer_frames.specs.declared.kinds.FrameType.TheVariants.{PipeShutW, Ack, Restart}
use Rattle.transfer_frames.specs.declared.kinds.FrameType.TheVariants.{Close}
use Rattle.std.specs.Int.{w32, cast_signed}
use Rattle.transfer_frames.specs.Numbers.{word_of, long_of, rid_of, words_of}
use Rattle.transfer_frames.specs.Grammar.{type_at, spelling, IsFrame}
use Rattle.transfer_frames.specs.Faults.{type_in, frame_length, word_fault, body_in, first_fault}

-- the frame of a type whose body these bytes are
abbrev pub value : FrameType → List ℕ → Frame
value Protocol body = frames.Protocol body
value Inject body = frames.Inject (map (cast_signed w32) (words_of body))
value OpenFile body = frames.OpenFile (rid_of body) (word_of (drop 4 body))
value ExtendFile body = frames.ExtendFile (rid_of body) (word_of (drop 4 body))
value Fill body =
    frames.Fill (rid_of body) (word_of (drop 4 body)) (word_of (drop 8 body)) (drop 12 body)
value OpenPipe body = frames.OpenPipe (rid_of body)
value PipeTransfer body = frames.PipeTransfer (rid_of body) (drop 4 body)
value PipeShutR body = frames.PipeShutR (rid_of body)
value PipeShutW body = frames.PipeShutW (rid_of body)
value Ack body = frames.Ack (long_of body)
value Restart body = frames.Restart (take 16 body) (word_of (drop 16 body)) (long_of (drop 20 body))
value Close body = frames.Close (word_of body)

-- the frame that the bytes spell, where nothing is wrong with them
abbrev pub value_of : Option FrameType → List ℕ → Option Frame
value_of None body = None
value_of (Some type) body = Some (value type body)

unfoldable pub frame_in : List ℕ → Option Frame
frame_in bytes = value_of (type_at (type_in (word_of bytes))) (body_in bytes)

-- the cause, or what is read where there is none
abbrev pub unless
    : Option FrameCause → Result (Option Frame) FrameCause → Result (Option Frame) FrameCause
unless None read = read
unless (Some cause) read = Err cause

-- the first bytes of a stream: a whole frame, none so far, or the cause that stands there
unfoldable pub front : List ℕ → Result (Option Frame) FrameCause
front bytes =
    if nat_lt (length bytes) 4 then Ok None else
    unless (word_fault (word_of bytes)) (
    let whole = take (frame_length (word_of bytes)) bytes in
    if nat_lt (length bytes) (frame_length (word_of bytes)) then Ok None else
    unless (first_fault whole) (Ok (frame_in whole)))

-- a whole frame is read
abbrev pub IsWhole : Result (Option Frame) FrameCause → Type 0
IsWhole (Ok (Some frame)) = Unit {0}
IsWhole read = ⊥

-- what is read from a stream is what stands at its front; memory is wanted for a whole frame alone
abbrev pub Answers : Result (Option Frame) DecodeFault → Result (Option Frame) FrameCause → Type 0
Answers (Ok frame) read = read ≡ Ok frame
Answers (Err (faults.Frame cause)) read = read ≡ Err cause
Answers (Err faults.Memory) read = IsWhole read

-- the frame, without how many bytes it took
abbrev pub frame_alone : Result (Option (Frame × ℕ)) DecodeFault → Result (Option Frame) DecodeFault
frame_alone (Ok (Some found)) = Ok (Some found.0)
frame_alone (Ok None) = Ok None
frame_alone (Err fault) = Err fault

-- the frame takes so many bytes of the front, and they are its spelling
abbrev pub Takes : List ℕ → Frame → ℕ → Type 0
Takes bytes frame count =
    IsFrame frame × (count ≤ length bytes) × (take count bytes ≡ spelling frame)

-- the bytes that an answer gives
abbrev pub given : Result (Option Frame) DecodeFault → List ℕ
given (Ok (Some frame)) = spelling frame
given answer = []

-- what a reader answers: there is no fault and this is the frame, or it is this fault; memory is
-- wanted for a frame alone
abbrev pub Reads : Result Frame DecodeFault → Option FrameCause → Option Frame → Type 0
Reads (Ok frame) fault read = (fault ≡ None) × (read ≡ Some frame)
Reads (Err (faults.Frame cause)) fault read = fault ≡ Some cause
Reads (Err faults.Memory) fault read = (fault ≡ None) × IsSome read

-- a type whose frames hold no list: all but four
abbrev pub IsSmall : Option FrameType → Type 0
IsSmall None = ⊥
IsSmall (Some Protocol) = ⊥
IsSmall (Some Inject) = ⊥
IsSmall (Some Fill) = ⊥
IsSmall (Some PipeTransfer) = ⊥
IsSmall type = Unit {0}

-- never want of memory
abbrev pub TakesNoMemory : Result Frame DecodeFault → Type 0
TakesNoMemory (Err faults.Memory) = ⊥
TakesNoMemory answer = Unit {0}
