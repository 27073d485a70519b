use Rattle.script_sides.proofs.Loadings.{Loading}
use Rattle.script_sides.proofs.side.ScriptSide.load.Given as goal

abbrev pub invariant-parts : goal.invariant-parts
invariant-parts l = Loading l.fn.words l.fn.self l.left l.self

abbrev pub decreases-parts : goal.decreases-parts
decreases-parts l = l.left
