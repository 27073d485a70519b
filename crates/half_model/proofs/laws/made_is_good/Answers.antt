use Rattle.half_model.proofs.Made.{made_is_good}
use Rattle.half_model.proofs.laws.made_is_good.Goals as goal

pub returns : goal.returns
returns c = made_is_good
