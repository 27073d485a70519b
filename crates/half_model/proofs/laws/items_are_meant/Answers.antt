use Rattle.half_model.proofs.Given.{items_are_meant}
use Rattle.half_model.proofs.laws.items_are_meant.Goals as goal

pub returns : goal.returns
returns c = items_are_meant
