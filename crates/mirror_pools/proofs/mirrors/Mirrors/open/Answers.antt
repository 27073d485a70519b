use Rattle.std.proofs.Common.{◌≡◌, ◌+◌, ℤ, None, sym, ◌∙◌, ap, subst, w32, int_cmp}
use Rattle.std.proofs.lemmas.Int.{to_z-of_z}
use Rattle.std.specs.BTreeMap.{insert_entry}
use Rattle.mirror_pools.specs.Mirrors.{MirrorsState, mirror_opened, sizes_of, with_opened}
use Rattle.mirror_pools.specs.Sizes.{ToldSizes, size_at, with_size, new_cause, open_cause, IsSummed}
use Rattle.mirror_pools.proofs.SizeLemmas.{IsSummed-opened}
use Rattle.mirror_pools.proofs.MirrorLemmas.{sizes_of-insert_entry}
use Rattle.mirror_pools.proofs.mirrors.Mirrors.open.Goals as goal

pub invariant_of-self-2 : goal.invariant_of-self-2
invariant_of-self-2 c =
    let mirrors = c.self.inside.mirrors.entries in
    let opened : c.insert.new.self.entries ≡ with_opened c.args.rid c.args.size mirrors =
    c.in_ok-insert.ensures.entries
    ∙ ap (λ (key : ℤ). insert_entry int_cmp mirrors key c.in_ok-mirror.mirror) (to_z-of_z w32 c.args.rid c.ranges.rid)
    ∙ ap (insert_entry int_cmp mirrors c.args.rid) c.in_ok-mirror.ensures
    in
    let sizes : sizes_of c.insert.new.self.entries ≡ with_size c.args.rid c.args.size (sizes_of mirrors) =
    ap sizes_of opened ∙ sizes_of-insert_entry c.args.rid (mirror_opened c.args.size) mirrors
    in
    let passes : new_cause (size_at c.args.rid (sizes_of mirrors)) c.args.size c.self.inside.sum ≡ None =
    ap (new_cause _ c.args.size) (sym c.self.invariant.sum_is)
    ∙ ap (λ (m : MirrorsState). open_cause c.args.rid c.args.size (sizes_of m)) c.self.view_is
    ∙ c.requires
    in
    let Sums : ToldSizes → Type 0 = λ all. IsSummed (c.self.inside.sum + c.args.size) all in
    subst Sums (sym sizes)
    (IsSummed-opened c.args.rid c.args.size c.self.inside.sum (sizes_of mirrors) c.self.invariant passes)
