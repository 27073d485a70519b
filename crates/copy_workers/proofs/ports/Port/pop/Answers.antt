use Rattle.copy_workers.proofs.HandSteps.{takes, totals}
use Rattle.copy_workers.proofs.ports.Port.pop.Goals as goal

pub pop_as-requires-clause-rule : goal.pop_as-requires-clause-rule
pop_as-requires-clause-rule g c = (takes _ _ c.self.invariant.1, totals _ _)
