use Rattle.half_model.proofs.ShownLaws.{shown_in_order}
use Rattle.half_model.proofs.laws.shown_in_order.Goals as goal

pub returns : goal.returns
returns c = shown_in_order
