use Rattle.pair_runs.specs.Measure.{wire_left}
use Rattle.script_sides.proofs.Takes.{TakesOn}
use Rattle.script_sides.proofs.side.ScriptSide.take.Given as goal

abbrev pub invariant-items : goal.invariant-items
invariant-items l = TakesOn l.fn.most l.fn.self l.left l.self l.took

abbrev pub decreases-items : goal.decreases-items
decreases-items l = wire_left l.self.peer.wire
