use Rattle.pair_model.proofs.Once.{each_once}
use Rattle.pair_model.proofs.laws.each_once.Goals as goal

pub returns : goal.returns
returns c = each_once
