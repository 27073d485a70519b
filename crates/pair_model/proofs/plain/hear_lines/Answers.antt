use Rattle.std.proofs.Common.{arith}
use Rattle.pair_model.proofs.Hearing.{hears_all}
use Rattle.pair_model.proofs.plain.hear_lines.Goals as goal

pub returns : goal.returns
returns c = hears_all c.args.lines.now c.loop-line.line-index (omega arith) c.loop-line.invariant
