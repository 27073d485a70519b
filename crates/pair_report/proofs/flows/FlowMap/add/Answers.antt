use Rattle.std.proofs.Common.{sym, ◌∙◌, ap, w32}
use Rattle.std.proofs.lemmas.Int.{to_z-of_z}
use Rattle.std.proofs.lemmas.Result.{on_ok_weaker}
use Rattle.pair_report.specs.Meant.{on_flow, with_piece}
use Rattle.pair_report.proofs.FlowSteps.{flow_changed}
use Rattle.pair_report.proofs.flows.FlowMap.add.Goals as goal

pub returns-in-Some : goal.returns-in-Some
returns-in-Some c =
    on_ok_weaker c.add.result
    (λ is. (c.get_mut.follows.holds c.add.new.self).0
    ∙ flow_changed _ c.args.rid (with_piece c.args.piece.now) c.self.inside.flows.entries c.in-Some.flow.now c.add.new.self c.get_mut.ensures.ordered
    (sym c.in-Some.ensures.value) (to_z-of_z w32 c.args.rid c.ranges.rid) is
    ∙ ap (on_flow c.args.rid (with_piece c.args.piece.now)) c.self.view_is)
    c.add.ensures
