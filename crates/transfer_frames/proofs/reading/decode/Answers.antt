use Rattle.std.proofs.Common.{arith}
use Rattle.transfer_frames.proofs.Decoded.{is_found, is_read}
use Rattle.transfer_frames.proofs.reading.decode.Goals as goal

pub returns-clause-found : goal.returns-clause-found
returns-clause-found c = is_found c.args.bytes.now c.read.result (λ i. omega (arith, c.type_inv.bytes i)) c.requires.whole c.read.ensures.reads

pub returns-clause-only : goal.returns-clause-only
returns-clause-only c = λ frame spelled. is_read c.args.bytes.now c.read.result frame spelled c.read.ensures.reads
