use Rattle.mirror_laws.proofs.Stood.{untouched_is_noted}
use Rattle.mirror_laws.proofs.laws.untouched_is_noted.Goals as goal

pub returns : goal.returns
returns c = untouched_is_noted
