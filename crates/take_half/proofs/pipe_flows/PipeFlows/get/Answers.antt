use Rattle.std.proofs.Common.{ℤ, ◌∙◌, ap, w32, int_cmp}
use Rattle.std.proofs.lemmas.Int.{to_z-of_z}
use Rattle.std.specs.BTreeMap.{is_at}
use Rattle.std.specs.Map.{lookup}
use Rattle.take_half.proofs.pipe_flows.PipeFlows.get.Goals as goal

pub returns : goal.returns
returns c =
    c.get.ensures.value
    ∙ ap (λ (rid : ℤ). lookup (is_at (int_cmp rid)) c.self.inside.flows.entries) (to_z-of_z w32 c.args.rid c.ranges.rid)
    ∙ ap (lookup (is_at (int_cmp c.args.rid))) c.self.view_is
