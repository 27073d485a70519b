use Rattle.half_model.proofs.Made.{groups_fit}
use Rattle.half_model.proofs.laws.groups_fit.Goals as goal

pub returns : goal.returns
returns c = groups_fit
