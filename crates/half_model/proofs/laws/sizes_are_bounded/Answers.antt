use Rattle.half_model.proofs.Made.{sizes_are_bounded}
use Rattle.half_model.proofs.laws.sizes_are_bounded.Goals as goal

pub returns : goal.returns
returns c = sizes_are_bounded
