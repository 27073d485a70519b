use Rattle.pair_runs.specs.Sides.{words_left}
use Rattle.script_sides.specs.Sided.{state_of}
use Rattle.script_sides.proofs.Loadings.{Filling}
use Rattle.script_sides.proofs.side.ScriptSide.load_message.Given as goal

abbrev pub invariant-copies : goal.invariant-copies
invariant-copies l = Filling l.fn.self l.self

abbrev pub decreases-copies : goal.decreases-copies
decreases-copies l = words_left (state_of l.self)
