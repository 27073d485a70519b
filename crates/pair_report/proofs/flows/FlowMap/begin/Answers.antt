use Rattle.std.proofs.Common.{sym, ◌∙◌, ap, w32}
use Rattle.std.proofs.lemmas.Int.{to_z-of_z}
use Rattle.pair_report.specs.Meant.{with_pipe}
use Rattle.pair_report.proofs.FlowSteps.{flow_there}
use Rattle.pair_report.proofs.flows.FlowMap.begin.Goals as goal

pub returns-in-Some : goal.returns-in-Some
returns-in-Some c =
    sym c.self.view_is
    ∙ flow_there _ c.args.rid c.self.inside.flows.entries _ (sym c.in-Some.ensures.value) (to_z-of_z w32 c.args.rid c.ranges.rid)
    ∙ ap (with_pipe c.args.rid) c.self.view_is
