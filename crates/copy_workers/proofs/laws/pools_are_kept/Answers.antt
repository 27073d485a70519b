use Rattle.copy_workers.proofs.ComeBackProofs.{pools_are_kept}
use Rattle.copy_workers.proofs.laws.pools_are_kept.Goals as goal

pub returns : goal.returns
returns c = pools_are_kept
