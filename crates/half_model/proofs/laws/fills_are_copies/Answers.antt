use Rattle.half_model.proofs.FillLaws.{fills_are_copies}
use Rattle.half_model.proofs.laws.fills_are_copies.Goals as goal

pub returns : goal.returns
returns c = fills_are_copies
