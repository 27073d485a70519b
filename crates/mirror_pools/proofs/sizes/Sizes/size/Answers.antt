use Rattle.std.proofs.Common.{ℤ, ◌∙◌, ap, w32, int_cmp}
use Rattle.std.proofs.lemmas.Int.{to_z-of_z}
use Rattle.std.specs.BTreeMap.{is_at}
use Rattle.std.specs.Map.{lookup}
use Rattle.mirror_pools.specs.Sizes.{size_at}
use Rattle.mirror_pools.proofs.sizes.Sizes.size.Goals as goal

pub returns-clause-exact : goal.returns-clause-exact
returns-clause-exact c =
    c.copied.ensures ∙ c.get.ensures.value
    ∙ ap (λ (rid : ℤ). lookup (is_at (int_cmp rid)) c.self.inside.sizes.entries) (to_z-of_z w32 c.args.rid c.ranges.rid)
    ∙ ap (size_at c.args.rid) c.self.view_is
