use Rattle.half_model.proofs.Known.{unshown_is_empty}
use Rattle.half_model.proofs.laws.unshown_is_empty.Goals as goal

pub returns : goal.returns
returns c = unshown_is_empty
