use Rattle.side_model.proofs.Calms.{rest_is_calm}
use Rattle.side_model.proofs.laws.rest_is_calm.Goals as goal

pub returns : goal.returns
returns c = rest_is_calm
