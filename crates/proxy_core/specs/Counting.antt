-- How many messages a frame of the other side has; messages are Wayland's.
use Rattle.std.specs.Prelude.{ℕ, length, Option, Some, None}
use Rattle.wl_wire.specs.Wire.{cut}
use Rattle.transfer_frames.specs.declared.frame.Frame.{Frame}
use Rattle.transfer_frames.specs.declared.frame.Frame.TheVariants.{Protocol}

abbrev pub messages_in : Frame → Option ℕ
messages_in (Protocol bytes) = Some (length (cut bytes))
messages_in frame = None
