use Rattle.copy_workers.proofs.ComeBackProofs.{no_stranger_comes_back}
use Rattle.copy_workers.proofs.laws.no_stranger_comes_back.Goals as goal

pub returns : goal.returns
returns c = no_stranger_comes_back
