use Rattle.half_model.proofs.Shown.{order_is_tracked}
use Rattle.half_model.proofs.laws.order_is_tracked.Goals as goal

pub returns : goal.returns
returns c = order_is_tracked
