use Rattle.std.proofs.Common.{length}
use Rattle.pair_model.proofs.Hearing.{Hearing}
use Rattle.pair_model.proofs.plain.Heard.take_line.Given as goal

-- the frames seen so far, and the bytes behind them
abbrev pub invariant-frames : goal.invariant-frames
invariant-frames l = Hearing l.read l.rest l.fn.self.frames.items l.fn.self.acknowledged l.self.frames.items l.self.acknowledged

abbrev pub decreases-frames : goal.decreases-frames
decreases-frames l = length l.rest
