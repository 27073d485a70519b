use Rattle.std.proofs.Common.{arith}
use Rattle.transfer_frames.proofs.NumberLaws.{length-word_bytes}
use Rattle.trail_records.proofs.tests.close.Goals as goal

pub returns : goal.returns
returns c = record { fields = omega arith; fits = omega (arith, length-word_bytes 0) }
