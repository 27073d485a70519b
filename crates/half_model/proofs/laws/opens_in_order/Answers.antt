use Rattle.half_model.proofs.Opens.{opens_in_order}
use Rattle.half_model.proofs.laws.opens_in_order.Goals as goal

pub returns : goal.returns
returns c = opens_in_order
