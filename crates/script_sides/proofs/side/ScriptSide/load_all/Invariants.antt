use Rattle.script_sides.specs.Sided.{state_of}
use Rattle.script_sides.proofs.Loadings.{Emptying, to_load}
use Rattle.script_sides.proofs.side.ScriptSide.load_all.Given as goal

abbrev pub invariant-messages : goal.invariant-messages
invariant-messages l = Emptying l.fn.self l.loaded l.self

abbrev pub decreases-messages : goal.decreases-messages
decreases-messages l = to_load (state_of l.self)
