-- A copy is handed back, and then what is due happens.
use Rattle.std.proofs.lemmas.Result.{err_from_is_err_and}
use Rattle.std.proofs.Common.{sym, ap, ◌∙◌}
use Rattle.side_model.specs.State.{Now}
use Rattle.owed_groups.specs.Lending.{done_of}
use Rattle.proxy_core.proofs.HandBacks.{handed_fails, handed_settles}
use Rattle.proxy_core.proofs.machine.Machine.copy_done.Goals as goal

pub returns-in_err-hand_back-in-None-clause-exact : goal.returns-in_err-hand_back-in-None-clause-exact
returns-in_err-hand_back-in-None-clause-exact c =
    let p = err_from_is_err_and c.from_residual.result c.from_residual.ensures.1 in
    rw (p.1, p.2) (handed_fails (done_of c.args.done) _ c.args.self.now c.hand_back.new.self (sym (ap (λ (s : Now). s.fault) c.self.view_is) ∙ c.in-None.is) c.in_err-hand_back-in-None.ensures.hands)

pub returns-in_ok-hand_back-in-None-clause-exact : goal.returns-in_ok-hand_back-in-None-clause-exact
returns-in_ok-hand_back-in-None-clause-exact c =
    handed_settles (done_of c.args.done) c.settle.result c.args.self.now c.hand_back.new.self c.settle.new.self (sym (ap (λ (s : Now). s.fault) c.self.view_is) ∙ c.in-None.is) c.in_ok-hand_back-in-None.ensures.hands
    c.settle.ensures.row c.settle.ensures.fails
