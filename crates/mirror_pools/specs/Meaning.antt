-- What the frames of the other side mean for the bytes of one file, told without any table; this
-- project's own.
use Rattle.std.specs.Prelude.{ℕ, if◌then◌else◌, ℤ, List, [], ◌∷◌, Option, Some, None, option_map}
use Rattle.std.specs.Ordering.{int_eq}
use Rattle.transfer_frames.specs.declared.frame.Frame.{Frame}
use Rattle.transfer_frames.specs.declared.frame.Frame.TheVariants.{OpenFile, ExtendFile, Fill}
use Rattle.mirror_pools.specs.Mirrors.{replaced, widened}
use Rattle.mirror_pools.specs.Sizes.{rounded}

-- the bytes of one rid behind a frame; none where it is no file
abbrev pub mirror_step : ℤ → Frame → Option (List ℕ) → Option (List ℕ)
mirror_step rid (OpenFile other size) bytes =
    if int_eq other rid then Some (widened (rounded size) []) else bytes
mirror_step rid (ExtendFile other size) bytes =
    if int_eq other rid then option_map (widened (rounded size)) bytes else bytes
mirror_step rid (Fill other start end piece) bytes =
    if int_eq other rid then option_map (replaced start piece) bytes else bytes
mirror_step rid frame bytes = bytes

abbrev pub mirror_from : ℤ → List Frame → Option (List ℕ) → Option (List ℕ)
mirror_from rid [] bytes = bytes
mirror_from rid (frame ∷ frames) bytes = mirror_from rid frames (mirror_step rid frame bytes)

-- the bytes of a rid behind these frames
abbrev pub mirror : ℤ → List Frame → Option (List ℕ)
mirror rid frames = mirror_from rid frames None
