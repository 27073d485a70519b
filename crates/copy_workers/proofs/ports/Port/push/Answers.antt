use Rattle.copy_workers.proofs.HandSteps.{puts}
use Rattle.copy_workers.proofs.ports.Port.push.Goals as goal

pub push_as-requires-clause-rule : goal.push_as-requires-clause-rule
push_as-requires-clause-rule g c = (puts _ _ _ _ c.self.invariant.1, λ items hands k at. tt)
