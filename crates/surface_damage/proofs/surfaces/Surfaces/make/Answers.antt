use Rattle.std.proofs.Common.{◌∙◌, sym, subst, ap}
use Rattle.std.specs.BTreeMap.{insert_entry}
use Rattle.std.specs.Ordering.{nat_cmp}
use Rattle.surface_damage.specs.History.{SurfaceState}
use Rattle.surface_damage.specs.Requests.{Make}
use Rattle.surface_damage.specs.Sound.{IsSound}
use Rattle.surface_damage.proofs.SoundLemmas.{sound_after}
use Rattle.surface_damage.proofs.surfaces.Surfaces.make.Goals as goal

pub invariant_of-self-2 : goal.invariant_of-self-2
invariant_of-self-2 c =
    subst IsSound (sym (c.in_ok-insert.ensures.entries ∙ ap (λ (s : SurfaceState). insert_entry nat_cmp c.self.inside.surfaces.entries c.args.id s) c.new.ensures)) (sound_after (Make c.args.id) c.self.inside.surfaces.entries c.self.invariant)

pub returns-clause-sound : goal.returns-clause-sound
returns-clause-sound c = invariant_of-self-2 c
