use Rattle.surface_damage.proofs.NewestLemmas.{newest_suffice_law}
use Rattle.surface_damage.proofs.laws.newest_suffice.Goals as goal

pub returns : goal.returns
returns c = newest_suffice_law
