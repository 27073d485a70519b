-- It is asked to close, and then all that is due is done.
use Rattle.std.proofs.Common.{◌≡◌, ◌∙◌, None, refl, sym, ap, arith}
use Rattle.side_model.specs.Events.{Asks}
use Rattle.side_model.specs.State.{Now}
use Rattle.proxy_core.specs.Keeping.{AtRest}
use Rattle.proxy_core.proofs.Callings.{IsReady, begun_ready, asks_one}
use Rattle.proxy_core.proofs.Keepings.{stood}
use Rattle.proxy_core.proofs.machine.Machine.close.Goals as goal

ready : (c : goal.After-settle-arg-1) → IsReady c.ask.new.self
ready c =
    let s = c.args.self.now in
    let none : s.fault ≡ None = ap (λ (s : Now). s.fault) (sym c.self.view_is) ∙ c.in-None.is in
    let rest : AtRest s = stood s.fault s none c.requires.stands in
    begun_ready (Asks c.args.reason) s c.ask.new.self none rest (omega (arith, c.ranges.reason)) c.requires.few (asks_one c.args.reason s) (refl, c.ask.ensures)

pub settle-requires-clause-running : goal.settle-requires-clause-running
settle-requires-clause-running c = (ready c).running

pub settle-requires-clause-keeps : goal.settle-requires-clause-keeps
settle-requires-clause-keeps c = (ready c).keeps

pub settle-requires-clause-groups : goal.settle-requires-clause-groups
settle-requires-clause-groups c = (ready c).groups

pub settle-requires-clause-few : goal.settle-requires-clause-few
settle-requires-clause-few c = (ready c).few
