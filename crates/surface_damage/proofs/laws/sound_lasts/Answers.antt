use Rattle.surface_damage.proofs.SoundLemmas.{sound_lasts_law}
use Rattle.surface_damage.proofs.laws.sound_lasts.Goals as goal

pub returns : goal.returns
returns c = sound_lasts_law
