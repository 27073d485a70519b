use Rattle.std.proofs.Common.{◌≡◌, ◌+◌, ◌-◌, ℕ, ℤ, None, sym, ◌∙◌, ap, subst, arith, w32, int_cmp}
use Rattle.std.proofs.lemmas.Int.{to_z-of_z}
use Rattle.std.proofs.lemmas.Map.Steps.{set_value_same}
use Rattle.std.proofs.lemmas.Result.{err_from_is_err_and}
use Rattle.std.specs.BTreeMap.{is_at}
use Rattle.std.specs.Map.{set_value}
use Rattle.std.specs.Option.{option_map}
use Rattle.mirror_pools.specs.Mirrors.{MirrorState, MirrorsState, mirror_grown, mirror_at, put_mirror, sizes_of, with_grown}
use Rattle.mirror_pools.specs.Sizes.{extend_cause, IsSummed}
use Rattle.mirror_pools.proofs.MirrorLemmas.{there-grown, lent-there, lent-found, given-back, Grows-from, IsSummed-set}
use Rattle.mirror_pools.proofs.mirrors.Mirrors.extend.Goals as goal

pub unwrap-mirror-requires : goal.unwrap-mirror-requires
unwrap-mirror-requires c =
    let mirrors = c.self.inside.mirrors.entries in
    let passes : extend_cause c.args.rid c.args.size (sizes_of mirrors) ≡ None =
    ap (λ (m : MirrorsState). extend_cause c.args.rid c.args.size (sizes_of m)) c.self.view_is ∙ c.requires
    in
    lent-there c.get_mut.result (mirror_at c.args.rid mirrors)
    (c.get_mut.ensures.value ∙ ap (λ (rid : ℤ). mirror_at rid mirrors) (to_z-of_z w32 c.args.rid c.ranges.rid))
    (there-grown c.args.rid c.args.size mirrors passes)

pub grow-requires : goal.grow-requires
grow-requires c =
    let mirrors = c.self.inside.mirrors.entries in
    let key = to_z-of_z w32 c.args.rid c.ranges.rid in
    let is = lent-found _ c.args.rid mirrors c.get_mut.result c.unwrap-mirror.result key c.get_mut.ensures.value c.unwrap-mirror.ensures in
    let passes : extend_cause c.args.rid c.args.size (sizes_of mirrors) ≡ None =
    ap (λ (m : MirrorsState). extend_cause c.args.rid c.args.size (sizes_of m)) c.self.view_is ∙ c.requires
    in
    (Grows-from c.args.rid c.args.size c.self.inside.sum mirrors c.unwrap-mirror.result.now c.self.invariant passes is).smaller

pub overflow_sub-self : goal.overflow_sub-self
overflow_sub-self c =
    let mirrors = c.self.inside.mirrors.entries in
    let key = to_z-of_z w32 c.args.rid c.ranges.rid in
    let is = lent-found _ c.args.rid mirrors c.get_mut.result c.unwrap-mirror.result key c.get_mut.ensures.value c.unwrap-mirror.ensures in
    let passes : extend_cause c.args.rid c.args.size (sizes_of mirrors) ≡ None =
    ap (λ (m : MirrorsState). extend_cause c.args.rid c.args.size (sizes_of m)) c.self.view_is ∙ c.requires
    in
    let it_grows = Grows-from c.args.rid c.args.size c.self.inside.sum mirrors c.unwrap-mirror.result.now c.self.invariant passes is in
    omega (arith, it_grows.within, c.size-old.ensures)

pub invariant_of-self : goal.invariant_of-self
invariant_of-self c =
    let mirrors = c.self.inside.mirrors.entries in
    let key = to_z-of_z w32 c.args.rid c.ranges.rid in
    let is = lent-found _ c.args.rid mirrors c.get_mut.result c.unwrap-mirror.result key c.get_mut.ensures.value c.unwrap-mirror.ensures in
    let same : (c.get_mut.follows.lender c.grow.new.self).entries ≡ mirrors =
    given-back _ c.args.rid mirrors _ c.grow.new.self key (c.get_mut.follows.holds c.grow.new.self).0
    ∙ ap (set_value (is_at (int_cmp c.args.rid)) mirrors) c.in_err-grow.ensures.err
    ∙ set_value_same (is_at (int_cmp c.args.rid)) mirrors c.unwrap-mirror.result.now is
    in
    let Sums : MirrorsState → Type 0 = λ all. IsSummed c.self.inside.sum (sizes_of all) in
    subst Sums (sym same) c.self.invariant

pub returns-in_err-grow-clause-err : goal.returns-in_err-grow-clause-err
returns-in_err-grow-clause-err c =
    let p = err_from_is_err_and c.from_residual.result c.from_residual.ensures.1 in
    let mirrors = c.self.inside.mirrors.entries in
    let key = to_z-of_z w32 c.args.rid c.ranges.rid in
    let is = lent-found _ c.args.rid mirrors c.get_mut.result c.unwrap-mirror.result key c.get_mut.ensures.value c.unwrap-mirror.ensures in
    rw p.1 (
    given-back _ c.args.rid mirrors _ c.grow.new.self key (c.get_mut.follows.holds c.grow.new.self).0
    ∙ ap (set_value (is_at (int_cmp c.args.rid)) mirrors) c.in_err-grow.ensures.err
    ∙ set_value_same (is_at (int_cmp c.args.rid)) mirrors c.unwrap-mirror.result.now is
    ∙ c.self.view_is)

pub invariant_of-self-2 : goal.invariant_of-self-2
invariant_of-self-2 c =
    let mirrors = c.self.inside.mirrors.entries in
    let it = c.unwrap-mirror.result.now in
    let key = to_z-of_z w32 c.args.rid c.ranges.rid in
    let is = lent-found _ c.args.rid mirrors c.get_mut.result c.unwrap-mirror.result key c.get_mut.ensures.value c.unwrap-mirror.ensures in
    let passes : extend_cause c.args.rid c.args.size (sizes_of mirrors) ≡ None =
    ap (λ (m : MirrorsState). extend_cause c.args.rid c.args.size (sizes_of m)) c.self.view_is ∙ c.requires
    in
    let it_grows = Grows-from c.args.rid c.args.size c.self.inside.sum mirrors it c.self.invariant passes is in
    let set : (c.get_mut.follows.lender c.grow.new.self).entries ≡ set_value (is_at (int_cmp c.args.rid)) mirrors c.grow.new.self =
    given-back _ c.args.rid mirrors _ c.grow.new.self key (c.get_mut.follows.holds c.grow.new.self).0
    in
    let Sums : MirrorsState → Type 0 = λ all. IsSummed (c.self.inside.sum - c.size-old.result + c.args.size) (sizes_of all) in
    let Sum : ℕ → Type 0 =
    λ n. IsSummed (c.self.inside.sum - n + c.args.size) (sizes_of (set_value (is_at (int_cmp c.args.rid)) mirrors c.grow.new.self))
    in
    subst Sums (sym set) (
    subst Sum (sym c.size-old.ensures)
    (IsSummed-set c.args.rid c.args.size c.self.inside.sum mirrors it c.grow.new.self c.self.invariant it_grows is
    (ap (λ (m : MirrorState). m.size) c.in_ok-grow.ensures.ok)))

pub returns-clause-ok : goal.returns-clause-ok
returns-clause-ok c =
    let mirrors = c.self.inside.mirrors.entries in
    let key = to_z-of_z w32 c.args.rid c.ranges.rid in
    let is = lent-found _ c.args.rid mirrors c.get_mut.result c.unwrap-mirror.result key c.get_mut.ensures.value c.unwrap-mirror.ensures in
    given-back _ c.args.rid mirrors _ c.grow.new.self key (c.get_mut.follows.holds c.grow.new.self).0
    ∙ ap (set_value (is_at (int_cmp c.args.rid)) mirrors) c.in_ok-grow.ensures.ok
    ∙ sym (ap (λ o. put_mirror c.args.rid (option_map (mirror_grown c.args.size) o) mirrors) is)
    ∙ ap (with_grown c.args.rid c.args.size) c.self.view_is
