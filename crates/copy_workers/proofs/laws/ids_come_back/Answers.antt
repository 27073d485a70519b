use Rattle.copy_workers.proofs.ComeBackProofs.{ids_come_back}
use Rattle.copy_workers.proofs.laws.ids_come_back.Goals as goal

pub returns : goal.returns
returns c = ids_come_back
