use Rattle.std.proofs.Common.{sym, ◌∙◌, ap, w32}
use Rattle.std.proofs.lemmas.Int.{to_z-of_z}
use Rattle.pair_report.specs.Meant.{on_flow, with_end}
use Rattle.pair_report.proofs.FlowSteps.{flow_changed}
use Rattle.pair_report.proofs.flows.FlowMap.end.Goals as goal

pub returns-in-Some : goal.returns-in-Some
returns-in-Some c =
    (c.get_mut.follows.holds c.end.new.self).0
    ∙ flow_changed _ c.args.rid with_end c.self.inside.flows.entries c.in-Some.flow.now c.end.new.self c.get_mut.ensures.ordered
    (sym c.in-Some.ensures.value) (to_z-of_z w32 c.args.rid c.ranges.rid) c.end.ensures
    ∙ ap (on_flow c.args.rid with_end) c.self.view_is
