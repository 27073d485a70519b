use Rattle.copy_workers.proofs.HandSteps.{absorbs}
use Rattle.copy_workers.proofs.ports.Port.absorb.Goals as goal

pub absorb-requires-clause-rule : goal.absorb-requires-clause-rule
absorb-requires-clause-rule g c = absorbs _ _ _ _ c.self.invariant.1
