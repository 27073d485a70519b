use Rattle.std.proofs.Common.{◌≡◌, ◌∙◌, ℕ, List, Some, Result, IfOk, OnOk, sym, ap, subst, arith}
use Rattle.std.specs.BTreeMap.{BTreeMap, is_at}
use Rattle.std.specs.Ordering.{nat_cmp}
use Rattle.std.specs.declared.alloc.AllocError.{AllocError}
use Rattle.std.proofs.lemmas.Map.Steps.{set_value_same}
use Rattle.block_intervals.specs.declared.run.Run.{Run}
use Rattle.surface_damage.specs.declared.standing.Due.{Due}
use Rattle.surface_damage.specs.declared.surfaces.Surfaces.TheInside.{Inside}
use Rattle.surface_damage.specs.DueBytes.{told_of}
use Rattle.surface_damage.specs.Filled.{IsFilling}
use Rattle.surface_damage.specs.History.{SurfaceState}
use Rattle.surface_damage.specs.Requests.{Commit, after}
use Rattle.surface_damage.specs.Sound.{IsSound}
use Rattle.surface_damage.specs.Steps.{changed, with_commit}
use Rattle.surface_damage.proofs.FilledLemmas.{filled_blocks_ascend_law, nothing_filled}
use Rattle.surface_damage.proofs.StepLemmas.{changed_is, changed_none, on_any_err, on_any_ok}
use Rattle.surface_damage.proofs.SoundLemmas.{sound_after}
use Rattle.surface_damage.proofs.surfaces.Surfaces.commit.Goals as goal
use Rattle.surface_damage.proofs.surfaces.Surfaces.commit.Goals.{in-Some+in_ok-blocks-in-Some, in-None}

pub returns-in_err-blocks-in-Some-clause-err : goal.returns-in_err-blocks-in-Some-clause-err
returns-in_err-blocks-in-Some-clause-err c =
    on_any_err c.from_residual.result _
    ((c.get_mut.follows.holds c.commit.new.self).0
    ∙ set_value_same (is_at (nat_cmp c.args.id)) c.self.inside.surfaces.entries c.commit.new.self (sym c.in-Some.ensures.value ∙ ap (λ (s : SurfaceState). Some s) (sym c.in_err-blocks-in-Some.ensures.err)) ∙ c.self.view_is)

pub returns-in_err-blocks-in-Some-clause-sound : goal.returns-in_err-blocks-in-Some-clause-sound
returns-in_err-blocks-in-Some-clause-sound c =
    subst IsSound
    (sym ((c.get_mut.follows.holds c.commit.new.self).0
    ∙ set_value_same (is_at (nat_cmp c.args.id)) c.self.inside.surfaces.entries c.commit.new.self (sym c.in-Some.ensures.value ∙ ap (λ (s : SurfaceState). Some s) (sym c.in_err-blocks-in-Some.ensures.err))))
    c.self.invariant

pub invariant_of-self : goal.invariant_of-self
invariant_of-self c =
    subst IsSound
    (sym ((c.get_mut.follows.holds c.commit.new.self).0
    ∙ set_value_same (is_at (nat_cmp c.args.id)) c.self.inside.surfaces.entries c.commit.new.self (sym c.in-Some.ensures.value ∙ ap (λ (s : SurfaceState). Some s) (sym c.in_err-blocks-in-Some.ensures.err))))
    c.self.invariant

-- the surfaces behind the commit
stepped : (c : goal.Joined-get_mut) → c.match-get_mut.self-inside.surfaces.entries ≡ changed c.args.id (with_commit c.args.current.now) c.args.self.now
stepped c =
    let step = with_commit c.args.current.now in
    let all = c.self.inside.surfaces.entries in
    elim c.match-get_mut.branch [
      | in-Some+in_ok-blocks-in-Some w ↦ ap (λ (inside : Inside). inside.surfaces.entries) w.self-inside-is ∙ (c.get_mut.follows.holds w.commit.new.self).0
          ∙ changed_is c.args.id step all w.in-Some.surface.now w.commit.new.self (sym w.in-Some.ensures.value) w.in_ok-blocks-in-Some.ensures.ok ∙ ap (changed c.args.id step) c.self.view_is
      | in-None w ↦ ap (λ (inside : Inside). inside.surfaces.entries) w.self-inside-is ∙ ap (λ (map : BTreeMap ℕ SurfaceState). map.entries) c.get_mut.follows.holds-at-none
          ∙ sym (changed_none c.args.id step all (sym w.in-None.ensures.value)) ∙ ap (changed c.args.id step) c.self.view_is
    ]

pub returns-clause-ok : goal.returns-clause-ok
returns-clause-ok c = on_any_ok c.match-get_mut.result _ (stepped c)

pub returns-clause-sound : goal.returns-clause-sound
returns-clause-sound c = subst IsSound (sym (stepped c)) (sound_after (Commit c.args.id c.args.current.now) c.args.self.now (subst IsSound c.self.view_is c.self.invariant))

pub invariant_of-self-2 : goal.invariant_of-self-2
invariant_of-self-2 c = returns-clause-sound c

pub returns-clause-filling : goal.returns-clause-filling
returns-clause-filling c =
    let told = told_of c.args.current.now in
    let P : Result Due AllocError → Type 0 = λ r. IfOk r (λ due. IsFilling due.blocks told) in
    elim c.match-get_mut.branch [
      | in-Some+in_ok-blocks-in-Some w ↦ subst P (sym w.result-is) (subst (λ (runs : List Run). IsFilling runs told) (sym w.in_ok-blocks-in-Some.ensures.blocks) (filled_blocks_ascend_law w.in-Some.surface.now c.args.current.now))
      | in-None w ↦ subst P (sym w.result-is) (subst (λ (runs : List Run). IsFilling runs told) (sym w.new.ensures) (nothing_filled told))
    ]
