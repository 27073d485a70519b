use Rattle.surface_damage.proofs.StepLemmas.{find_after_law}
use Rattle.surface_damage.proofs.laws.find_after.Goals as goal

pub returns : goal.returns
returns c = find_after_law
