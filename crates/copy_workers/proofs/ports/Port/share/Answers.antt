use Rattle.std.proofs.Common.{rules}
use Rattle.copy_workers.proofs.HandSteps.{shares}
use Rattle.copy_workers.proofs.ports.Port.share.Goals as goal

pub another-pass-requires-clause-rule : goal.another-pass-requires-clause-rule
another-pass-requires-clause-rule g c = shares _ _ (search rules)
