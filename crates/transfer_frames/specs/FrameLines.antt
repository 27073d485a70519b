-- The line that shows a frame: its place in the stream, its name and its fields, one space between;
-- the form is this project's own.
use Rattle.std.specs.Prelude.{ℕ, List, [], ◌∷◌, ◌++◌, map, codes, decimal}
use Rattle.std.specs.Fmt.{signed_decimal}
use Rattle.std.specs.List.{flat_map}
use Rattle.hex.specs.Hex.{encode_lower}
use Rattle.transfer_frames.specs.declared.frame.Frame.{Frame}
use Rattle.transfer_frames.specs.declared.frame.Frame.TheVariants as frames
use Rattle.transfer_frames.specs.declared.kinds.FrameType.{FrameType}
use Rattle.transfer_frames.specs.declared.kinds.FrameType.TheVariants.{Protocol, Inject, OpenFile}
use Rattle.transfer_frames.specs.declared.kinds.FrameType.TheVariants.{ExtendFile, Fill, OpenPipe}
use Rattle.transfer_frames.specs.declared.kinds.FrameType.TheVariants.{PipeTransfer, PipeShutR}
use Rattle.transfer_frames.specs.declared.kinds.FrameType.TheVariants.{PipeShutW, Ack, Restart}
use Rattle.transfer_frames.specs.declared.kinds.FrameType.TheVariants.{Close}
use Rattle.transfer_frames.specs.Grammar.{type_of}

unfoldable pub type_name : FrameType → List ℕ
type_name Protocol = codes "PROTOCOL"
type_name Inject = codes "INJECT"
type_name OpenFile = codes "OPEN_FILE"
type_name ExtendFile = codes "EXTEND_FILE"
type_name Fill = codes "FILL"
type_name OpenPipe = codes "OPEN_PIPE"
type_name PipeTransfer = codes "PIPE_TRANSFER"
type_name PipeShutR = codes "PIPE_SHUT_R"
type_name PipeShutW = codes "PIPE_SHUT_W"
type_name Ack = codes "ACK"
type_name Restart = codes "RESTART"
type_name Close = codes "CLOSE"

-- numbers in decimal, with a sign where they are negative, and bytes in lower-case hexadecimal
abbrev pub fields : Frame → List (List ℕ)
fields (frames.Protocol messages) = encode_lower messages ∷ []
fields (frames.Inject rids) = map signed_decimal rids
fields (frames.OpenFile rid size) = signed_decimal rid ∷ decimal size ∷ []
fields (frames.ExtendFile rid size) = signed_decimal rid ∷ decimal size ∷ []
fields (frames.Fill rid start end bytes) =
    signed_decimal rid ∷ decimal start ∷ decimal end ∷ encode_lower bytes ∷ []
fields (frames.OpenPipe rid) = signed_decimal rid ∷ []
fields (frames.PipeTransfer rid bytes) = signed_decimal rid ∷ encode_lower bytes ∷ []
fields (frames.PipeShutR rid) = signed_decimal rid ∷ []
fields (frames.PipeShutW rid) = signed_decimal rid ∷ []
fields (frames.Ack count) = decimal count ∷ []
fields (frames.Restart token connection received) =
    encode_lower token ∷ decimal connection ∷ decimal received ∷ []
fields (frames.Close reason) = decimal reason ∷ []

-- a space before each
abbrev pub spaced : List (List ℕ) → List ℕ
spaced words = flat_map (λ word. 32 ∷ word) words

-- without the byte that ends a line
abbrev pub line : ℕ → Frame → List ℕ
line place frame = decimal place ++ (32 ∷ type_name (type_of frame) ++ spaced (fields frame))
