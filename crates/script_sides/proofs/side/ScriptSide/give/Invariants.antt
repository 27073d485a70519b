use Rattle.script_sides.specs.Giving.{Gives, to_give}
use Rattle.script_sides.proofs.side.ScriptSide.give.Given as goal

abbrev pub invariant-items : goal.invariant-items
invariant-items l = Gives l.fn.self l.self

abbrev pub decreases-items : goal.decreases-items
decreases-items l = to_give l.self
