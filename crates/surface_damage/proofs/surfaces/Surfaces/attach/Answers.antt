use Rattle.std.proofs.Common.{◌≡◌, ◌∙◌, ℕ, sym, ap, subst}
use Rattle.std.specs.BTreeMap.{BTreeMap}
use Rattle.surface_damage.specs.declared.surfaces.Surfaces.TheInside.{Inside}
use Rattle.surface_damage.specs.History.{SurfaceState}
use Rattle.surface_damage.specs.Requests.{Attach}
use Rattle.surface_damage.specs.Sound.{IsSound}
use Rattle.surface_damage.specs.Steps.{changed, with_attached}
use Rattle.surface_damage.proofs.StepLemmas.{changed_is, changed_none}
use Rattle.surface_damage.proofs.SoundLemmas.{sound_after}
use Rattle.surface_damage.proofs.surfaces.Surfaces.attach.Goals as goal
use Rattle.surface_damage.proofs.surfaces.Surfaces.attach.Goals.{in-Some, in_default}

pub returns-clause-step : goal.returns-clause-step
returns-clause-step c =
    let step = with_attached c.args.buffer in
    let all = c.self.inside.surfaces.entries in
    elim c.match-get_mut.branch [
      | in-Some w ↦ ap (λ (inside : Inside). inside.surfaces.entries) w.self-inside-is ∙ (c.get_mut.follows.holds w.attach.new.self).0
          ∙ changed_is c.args.id step all w.in-Some.surface.now w.attach.new.self (sym w.in-Some.ensures.value) w.attach.ensures ∙ ap (changed c.args.id step) c.self.view_is
      | in_default w ↦ ap (λ (inside : Inside). inside.surfaces.entries) w.self-inside-is ∙ ap (λ (map : BTreeMap ℕ SurfaceState). map.entries) c.get_mut.follows.holds-at-none
          ∙ sym (changed_none c.args.id step all (sym w.in_default.ensures.value)) ∙ ap (changed c.args.id step) c.self.view_is
    ]

pub returns-clause-sound : goal.returns-clause-sound
returns-clause-sound c =
    subst IsSound (sym (returns-clause-step c)) (sound_after (Attach c.args.id c.args.buffer) c.args.self.now (subst IsSound c.self.view_is c.self.invariant))

pub invariant_of-self : goal.invariant_of-self
invariant_of-self c = returns-clause-sound c
