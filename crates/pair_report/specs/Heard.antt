-- Which frames of the other side a side accepted, as its records tell: the counted ones among the
-- whole frames that it read, connection by connection, as many as it accepted. Frames and records
-- are this project's own.
use Rattle.std.specs.Prelude.{ℕ, zero, suc, List, [], ◌∷◌, length, take, drop, Option, Some, None}
use Rattle.std.specs.Prelude.{Result, Ok, Err}
use Rattle.std.specs.List.{flat_map}
use Rattle.transfer_frames.specs.declared.cause.FrameCause.{FrameCause}
use Rattle.transfer_frames.specs.declared.frame.Frame.{Frame}
use Rattle.transfer_frames.specs.Front.{front}
use Rattle.transfer_frames.specs.Grammar.{spelling}
use Rattle.pair_model.specs.Lines.{Line}
use Rattle.pair_model.specs.Rows.{counted}
use Rattle.side_model.specs.Books.{TrailRecord}

-- what becomes of the frame at the front, if a whole one stands there
abbrev pub if_frame :
    {X : Type 0} → Result (Option Frame) FrameCause → X → (Frame → X) → X
if_frame (Ok (Some frame)) other next = next frame
if_frame (Ok None) other next = other
if_frame (Err cause) other next = other

-- at most so many frames from the front
unfoldable pub frames_within : ℕ → List ℕ → List Frame
frames_within zero bytes = []
frames_within (suc most) bytes =
    if_frame (front bytes) []
    (λ frame. frame ∷ frames_within most (drop (length (spelling frame)) bytes))

-- the whole frames at the front, up to a rest or up to the first fault
unfoldable pub frames_in : List ℕ → List Frame
frames_in bytes = frames_within (length bytes) bytes

-- the counted ones that were read on these connections
abbrev pub counted_on : List Line → List Frame
counted_on lines = flat_map (λ line. counted (frames_in line.read)) lines

-- those that were accepted
abbrev pub accepted_of : TrailRecord → List Frame
accepted_of trail = take trail.accepted (counted_on trail.lines.rows)
