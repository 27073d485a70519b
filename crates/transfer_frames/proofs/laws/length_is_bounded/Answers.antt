use Rattle.std.proofs.Common.{arith}
use Rattle.transfer_frames.proofs.FrameLaws.{length-spelling}
use Rattle.transfer_frames.proofs.laws.length_is_bounded.Goals as goal

pub returns : goal.returns
returns c = λ frame h. (omega (arith, length-spelling frame), omega (arith, length-spelling frame, h.fits))
