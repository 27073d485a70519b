use Rattle.std.proofs.Common.{◌≡◌, ◌+◌, ℤ, length, None, sym, ◌∙◌, ap, subst, w32, int_cmp}
use Rattle.std.proofs.lemmas.Int.{to_z-of_z}
use Rattle.std.specs.BTreeMap.{is_at}
use Rattle.std.specs.Map.{set_value}
use Rattle.std.specs.Option.{option_map}
use Rattle.mirror_pools.specs.Mirrors.{MirrorState, MirrorsState, mirror_filled, mirror_at, put_mirror, sizes_of, with_filled}
use Rattle.mirror_pools.specs.Sizes.{fill_cause, IsSummed, ToldSizes}
use Rattle.mirror_pools.proofs.MirrorLemmas.{there-filled, lent-there, lent-found, given-back, fits-filled, sizes_of-set_same}
use Rattle.mirror_pools.proofs.mirrors.Mirrors.fill.Goals as goal

pub unwrap-mirror-requires : goal.unwrap-mirror-requires
unwrap-mirror-requires c =
    let mirrors = c.self.inside.mirrors.entries in
    let end = c.args.start + length c.args.bytes.now in
    let passes : fill_cause c.args.rid end (sizes_of mirrors) ≡ None =
    ap (λ (m : MirrorsState). fill_cause c.args.rid end (sizes_of m)) c.self.view_is ∙ c.requires
    in
    lent-there c.get_mut.result (mirror_at c.args.rid mirrors)
    (c.get_mut.ensures.value ∙ ap (λ (rid : ℤ). mirror_at rid mirrors) (to_z-of_z w32 c.args.rid c.ranges.rid))
    (there-filled c.args.rid end mirrors passes)

pub fill-requires : goal.fill-requires
fill-requires c =
    let mirrors = c.self.inside.mirrors.entries in
    let end = c.args.start + length c.args.bytes.now in
    let passes : fill_cause c.args.rid end (sizes_of mirrors) ≡ None =
    ap (λ (m : MirrorsState). fill_cause c.args.rid end (sizes_of m)) c.self.view_is ∙ c.requires
    in
    let key = to_z-of_z w32 c.args.rid c.ranges.rid in
    let is = lent-found _ c.args.rid mirrors c.get_mut.result c.unwrap-mirror.result key c.get_mut.ensures.value c.unwrap-mirror.ensures in
    fits-filled c.args.rid end mirrors c.unwrap-mirror.result.now passes is

pub invariant_of-self : goal.invariant_of-self
invariant_of-self c =
    let mirrors = c.self.inside.mirrors.entries in
    let key = to_z-of_z w32 c.args.rid c.ranges.rid in
    let is = lent-found _ c.args.rid mirrors c.get_mut.result c.unwrap-mirror.result key c.get_mut.ensures.value c.unwrap-mirror.ensures in
    let same : sizes_of (c.get_mut.follows.lender c.fill.new.self).entries ≡ sizes_of mirrors =
    ap sizes_of (given-back _ c.args.rid mirrors _ c.fill.new.self key (c.get_mut.follows.holds c.fill.new.self).0)
    ∙ sizes_of-set_same c.args.rid c.unwrap-mirror.result.now c.fill.new.self mirrors is (ap (λ (m : MirrorState). m.size) c.fill.ensures)
    in
    let Sums : ToldSizes → Type 0 = λ all. IsSummed c.self.inside.sum all in
    subst Sums (sym same) c.self.invariant

pub returns : goal.returns
returns c =
    let mirrors = c.self.inside.mirrors.entries in
    let key = to_z-of_z w32 c.args.rid c.ranges.rid in
    let is = lent-found _ c.args.rid mirrors c.get_mut.result c.unwrap-mirror.result key c.get_mut.ensures.value c.unwrap-mirror.ensures in
    given-back _ c.args.rid mirrors _ c.fill.new.self key (c.get_mut.follows.holds c.fill.new.self).0
    ∙ ap (set_value (is_at (int_cmp c.args.rid)) mirrors) c.fill.ensures
    ∙ sym (ap (λ o. put_mirror c.args.rid (option_map (mirror_filled c.args.start c.args.bytes.now) o) mirrors) is)
    ∙ ap (with_filled c.args.rid c.args.start c.args.bytes.now) c.self.view_is
