use Rattle.std.proofs.Common.{◌≡◌, ◌∙◌, ℕ, Some, Result, OnOk, OnErr, sym, ap, subst}
use Rattle.std.specs.BTreeMap.{BTreeMap, is_at}
use Rattle.std.specs.Ordering.{nat_cmp}
use Rattle.std.specs.declared.alloc.AllocError.{AllocError}
use Rattle.std.proofs.lemmas.Map.Steps.{set_value_same}
use Rattle.std.proofs.lemmas.Result.{on_ok_weaker, on_err_weaker}
use Rattle.surface_damage.specs.declared.surfaces.Surfaces.TheInside.{Inside}
use Rattle.surface_damage.specs.History.{SurfaceState}
use Rattle.surface_damage.specs.Requests.{AddDamage, after}
use Rattle.surface_damage.specs.Sound.{IsSound}
use Rattle.surface_damage.specs.Steps.{changed, with_damage}
use Rattle.surface_damage.proofs.StepLemmas.{changed_is, changed_none, either_way}
use Rattle.surface_damage.proofs.SoundLemmas.{sound_after}
use Rattle.surface_damage.proofs.surfaces.Surfaces.add_damage.Goals as goal
use Rattle.surface_damage.proofs.surfaces.Surfaces.add_damage.Goals.{in-Some, in-None}

pub returns-clause-ok : goal.returns-clause-ok
returns-clause-ok c =
    let step = with_damage c.args.damage in
    let all = c.self.inside.surfaces.entries in
    let P : Result (Unit {0}) AllocError → Type 0 = λ r. OnOk r (c.match-get_mut.self-inside.surfaces.entries ≡ changed c.args.id step c.args.self.now) in
    elim c.match-get_mut.branch [
      | in-Some w ↦ subst P (sym w.result-is) (on_ok_weaker w.damage.result
          (λ is. ap (λ (inside : Inside). inside.surfaces.entries) w.self-inside-is ∙ (c.get_mut.follows.holds w.damage.new.self).0
          ∙ changed_is c.args.id step all w.in-Some.surface.now w.damage.new.self (sym w.in-Some.ensures.value) is ∙ ap (changed c.args.id step) c.self.view_is) w.damage.ensures.ok)
      | in-None w ↦ subst P (sym w.result-is) (ap (λ (inside : Inside). inside.surfaces.entries) w.self-inside-is ∙ ap (λ (map : BTreeMap ℕ SurfaceState). map.entries) c.get_mut.follows.holds-at-none
          ∙ sym (changed_none c.args.id step all (sym w.in-None.ensures.value)) ∙ ap (changed c.args.id step) c.self.view_is)
    ]

pub returns-clause-err : goal.returns-clause-err
returns-clause-err c =
    let all = c.self.inside.surfaces.entries in
    let P : Result (Unit {0}) AllocError → Type 0 = λ r. OnErr r (c.match-get_mut.self-inside.surfaces.entries ≡ c.args.self.now) in
    elim c.match-get_mut.branch [
      | in-Some w ↦ subst P (sym w.result-is) (on_err_weaker w.damage.result
          (λ is. ap (λ (inside : Inside). inside.surfaces.entries) w.self-inside-is ∙ (c.get_mut.follows.holds w.damage.new.self).0
          ∙ set_value_same (is_at (nat_cmp c.args.id)) all w.damage.new.self (sym w.in-Some.ensures.value ∙ ap (λ (s : SurfaceState). Some s) (sym is)) ∙ c.self.view_is) w.damage.ensures.err)
      | in-None w ↦ subst P (sym w.result-is) tt
    ]

pub returns-clause-sound : goal.returns-clause-sound
returns-clause-sound c =
    let sound = subst IsSound c.self.view_is c.self.invariant in
    either_way c.match-get_mut.result IsSound _ _ _ (returns-clause-ok c) (returns-clause-err c) (sound_after (AddDamage c.args.id c.args.damage) c.args.self.now sound) sound

pub invariant_of-self : goal.invariant_of-self
invariant_of-self c = returns-clause-sound c
