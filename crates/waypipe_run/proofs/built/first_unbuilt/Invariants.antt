use Rattle.std.proofs.Common.{◌≡◌, drop}
use Rattle.waypipe_run.specs.Built.{first_unbuilt}
use Rattle.waypipe_run.proofs.built.first_unbuilt.Given as goal

-- all lines so far are run
abbrev pub invariant-loop-step : goal.invariant-loop-step
invariant-loop-step l = first_unbuilt l.steps ≡ first_unbuilt (drop l.step-index l.steps)
