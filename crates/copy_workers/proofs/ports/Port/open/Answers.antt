use Rattle.copy_workers.proofs.HandSteps.{begins}
use Rattle.copy_workers.proofs.ports.Port.open.Goals as goal

pub ruled-requires-clause-rule : goal.ruled-requires-clause-rule
ruled-requires-clause-rule g c = begins
