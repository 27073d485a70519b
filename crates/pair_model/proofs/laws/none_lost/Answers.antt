use Rattle.pair_model.proofs.Once.{none_lost}
use Rattle.pair_model.proofs.laws.none_lost.Goals as goal

pub returns : goal.returns
returns c = none_lost
