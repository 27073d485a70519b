use Rattle.mirror_laws.proofs.Mirrors.{mirrors_are_sized}
use Rattle.mirror_laws.proofs.laws.mirrors_are_sized.Goals as goal

pub returns : goal.returns
returns c = mirrors_are_sized
