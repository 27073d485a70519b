use Rattle.std.proofs.Common.{Some, sym, ◌∙◌, ap, w32, SFits, rules, int_cmp}
use Rattle.std.proofs.lemmas.Int.{to_z-of_z}
use Rattle.std.proofs.lemmas.Map.Steps.{set_value_same}
use Rattle.std.proofs.lemmas.Result.{on_ok_weaker, on_err_weaker}
use Rattle.std.specs.BTreeMap.{is_at}
use Rattle.half_model.specs.Meaning.{Flow}
use Rattle.half_model.specs.PeerState.{with_flow}
use Rattle.take_half.proofs.FlowLemmas.{flow_changed}
use Rattle.take_half.proofs.pipe_flows.PipeFlows.take.Goals as goal

pub returns-in-Some-clause-ok : goal.returns-in-Some-clause-ok
returns-in-Some-clause-ok c =
    let fits : SFits w32 c.rid_of-rid.result = search rules in
    let key = to_z-of_z w32 c.rid_of-rid.result fits in
    on_ok_weaker c.take.result
    (λ is. (c.get_mut.follows.holds c.take.new.self).0
    ∙ flow_changed _ c.args.item c.self.inside.flows.entries c.in-Some.flow.now c.take.new.self c.get_mut.ensures.ordered (sym c.in-Some.ensures.value)
    (key ∙ c.rid_of-rid.ensures) is
    ∙ ap (with_flow c.args.item) c.self.view_is)
    c.take.ensures.ok

pub returns-in-Some-clause-err : goal.returns-in-Some-clause-err
returns-in-Some-clause-err c =
    on_err_weaker c.take.result
    (λ is. (c.get_mut.follows.holds c.take.new.self).0
    ∙ set_value_same (is_at (int_cmp _)) c.self.inside.flows.entries c.take.new.self
    (sym c.in-Some.ensures.value ∙ ap (λ (flow : Flow). Some flow) (sym is))
    ∙ c.self.view_is)
    c.take.ensures.err
