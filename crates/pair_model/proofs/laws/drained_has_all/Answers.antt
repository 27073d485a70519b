use Rattle.pair_model.proofs.Once.{drained_has_all}
use Rattle.pair_model.proofs.laws.drained_has_all.Goals as goal

pub returns : goal.returns
returns c = drained_has_all
