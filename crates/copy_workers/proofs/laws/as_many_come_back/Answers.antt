use Rattle.copy_workers.proofs.ComeBackProofs.{as_many_come_back}
use Rattle.copy_workers.proofs.laws.as_many_come_back.Goals as goal

pub returns : goal.returns
returns c = as_many_come_back
