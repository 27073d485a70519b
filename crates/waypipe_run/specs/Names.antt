-- The names by which the program prints causes. The faults of messages are those of the Wayland
-- wire format; the names, and all other causes, are this project's own. Of a cause inside another
-- one the innermost alone is printed.
use Rattle.std.specs.Prelude.{ℕ, List, [], ◌∷◌, codes, decimal}
use Rattle.wl_wire.specs.declared.faults.WireFault.{WireFault}
use Rattle.wl_wire.specs.declared.faults.WireFault.TheVariants as wire
use Rattle.wl_wire.specs.declared.faults.ObjectFault.{ObjectFault}
use Rattle.wl_wire.specs.declared.faults.ObjectFault.TheVariants as object
use Rattle.wp_outside.specs.declared.kinds.Side.{Side}
use Rattle.wp_outside.specs.declared.kinds.Side.TheVariants as side
use Rattle.transfer_frames.specs.declared.cause.FrameCause.{FrameCause}
use Rattle.transfer_frames.specs.declared.cause.FrameCause.TheVariants as frame
use Rattle.script_lang.specs.declared.causes.ScriptCause.{ScriptCause}
use Rattle.script_lang.specs.declared.causes.ScriptCause.TheVariants as script
use Rattle.half_model.specs.declared.causes.PeerCause.{PeerCause}
use Rattle.half_model.specs.declared.causes.PeerCause.TheVariants as peer
use Rattle.waypipe_run.specs.declared.status.Reader.{Reader}
use Rattle.waypipe_run.specs.declared.status.Reader.TheVariants as reader
use Rattle.half_model.specs.declared.causes.Limit.{Limit}
use Rattle.half_model.specs.declared.causes.Limit.TheVariants as limit

abbrev pub script_name : ScriptCause → List ℕ
script_name script.Text = codes "Text"
script_name script.Word = codes "Word"
script_name script.Form = codes "Form"
script_name script.Number = codes "Number"
script_name script.Message = codes "Message"
script_name script.Name = codes "Name"
script_name script.NotBuilt = codes "NotBuilt"

abbrev pub wire_name : WireFault → List ℕ
wire_name wire.SizeSmall = codes "SizeSmall"
wire_name wire.SizeOdd = codes "SizeOdd"
wire_name wire.ArgShort = codes "ArgShort"
wire_name wire.ArgLong = codes "ArgLong"
wire_name wire.StringNoNul = codes "StringNoNul"
wire_name wire.NullNotAllowed = codes "NullNotAllowed"

abbrev pub object_name : ObjectFault → List ℕ
object_name object.UnknownObject = codes "UnknownObject"
object_name object.UnknownOpcode = codes "UnknownOpcode"
object_name object.IdInUse = codes "IdInUse"
object_name object.IdRange = codes "IdRange"
object_name object.UnknownInterface = codes "UnknownInterface"
object_name (object.Wire fault) = wire_name fault
object_name object.TooManyObjects = codes "TooManyObjects"

abbrev pub peer_name : PeerCause → List ℕ
peer_name (peer.Object fault) = object_name fault
peer_name peer.HandleMissing = codes "HandleMissing"
peer_name peer.HandleKind = codes "HandleKind"
peer_name peer.NoteMissing = codes "NoteMissing"
peer_name peer.PipeUnknown = codes "PipeUnknown"

abbrev pub limit_name : Limit → List ℕ
limit_name limit.File = codes "file"
limit_name limit.Files = codes "files"
limit_name limit.Trail = codes "trail"
limit_name limit.Connections = codes "connections"
limit_name limit.Input = codes "input"
limit_name limit.Lines = codes "lines"

-- the peer beside a side
abbrev pub side_name : Side → List ℕ
side_name side.Near = codes "application"
side_name side.Far = codes "compositor"

-- whose bytes a frame stands in
abbrev pub reader_name : Reader → List ℕ
reader_name reader.Near = codes "near"
reader_name reader.Far = codes "far"
reader_name reader.Input = codes "input"

unfoldable pub frame_name : FrameCause → List ℕ
frame_name frame.SizeSmall = codes "SizeSmall"
frame_name frame.SizeLarge = codes "SizeLarge"
frame_name frame.UnknownType = codes "UnknownType"
frame_name (frame.LeftOut type) = codes "LeftOut"
frame_name frame.BodyLength = codes "BodyLength"
frame_name frame.Padding = codes "Padding"
frame_name frame.RidZero = codes "RidZero"
frame_name frame.FillRange = codes "FillRange"
frame_name frame.MessageCut = codes "MessageCut"
frame_name frame.RestartMissing = codes "RestartMissing"
frame_name frame.RestartAgain = codes "RestartAgain"
frame_name frame.Token = codes "Token"
frame_name frame.Connection = codes "Connection"
frame_name frame.RestartBehind = codes "RestartBehind"
frame_name frame.RestartAhead = codes "RestartAhead"
frame_name frame.AckBehind = codes "AckBehind"
frame_name frame.AckAhead = codes "AckAhead"
frame_name frame.AfterClose = codes "AfterClose"
frame_name frame.CountSpent = codes "CountSpent"
frame_name frame.RidInUse = codes "RidInUse"
frame_name frame.RidUnknown = codes "RidUnknown"
frame_name frame.ExtendSmaller = codes "ExtendSmaller"
frame_name frame.FillOutside = codes "FillOutside"
frame_name frame.FileTooLarge = codes "FileTooLarge"
frame_name frame.PipeUnknown = codes "PipeUnknown"
frame_name frame.PipeShut = codes "PipeShut"
frame_name frame.RidCount = codes "RidCount"
frame_name (frame.PeerMessage fault) = codes "PeerMessage"
frame_name frame.FilesTooLarge = codes "FilesTooLarge"

-- what stands behind the name of a cause that carries something, after a space
abbrev pub frame_detail : FrameCause → List ℕ
frame_detail (frame.LeftOut type) = 32 ∷ decimal type
frame_detail (frame.PeerMessage fault) = 32 ∷ object_name fault
frame_detail cause = []
