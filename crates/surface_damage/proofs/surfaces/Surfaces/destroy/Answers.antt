use Rattle.std.proofs.Common.{sym, subst}
use Rattle.surface_damage.specs.Requests.{Destroy}
use Rattle.surface_damage.specs.Sound.{IsSound}
use Rattle.surface_damage.proofs.SoundLemmas.{sound_after}
use Rattle.surface_damage.proofs.surfaces.Surfaces.destroy.Goals as goal

pub invariant_of-self : goal.invariant_of-self
invariant_of-self c = subst IsSound (sym c.remove.ensures.entries) (sound_after (Destroy c.args.id) c.self.inside.surfaces.entries c.self.invariant)

pub returns-clause-sound : goal.returns-clause-sound
returns-clause-sound c = invariant_of-self c
