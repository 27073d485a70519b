-- A piece comes, and then all that is due is done.
use Rattle.std.proofs.Common.{◌≡◌, ◌∙◌, None, sym, ap, arith}
use Rattle.std.proofs.lemmas.Result.{err_from_is_err_and}
use Rattle.side_model.specs.Events.{Came}
use Rattle.side_model.specs.State.{Now}
use Rattle.proxy_core.specs.Keeping.{AtRest}
use Rattle.proxy_core.proofs.Callings.{IsReady, begun_ready, came_one, call_refused}
use Rattle.proxy_core.proofs.Keepings.{stood}
use Rattle.proxy_core.proofs.machine.Machine.feed_link.Goals as goal

pub returns-in_err-read-in-None-clause-exact : goal.returns-in_err-read-in-None-clause-exact
returns-in_err-read-in-None-clause-exact c =
    let s = c.args.self.now in
    let none : s.fault ≡ None = ap (λ (s : Now). s.fault) (sym c.self.view_is) ∙ c.in-None.is in
    let p = err_from_is_err_and c.from_residual.result c.from_residual.ensures.1 in
    rw (p.1, p.2) (call_refused c.in_err-read-in-None.field-0.0 (Came c.args.piece.now) s c.read.new.self none c.in_err-read-in-None.ensures)

ready : (c : goal.After-settle-arg-1) → IsReady c.read.new.self
ready c =
    let s = c.args.self.now in
    let none : s.fault ≡ None = ap (λ (s : Now). s.fault) (sym c.self.view_is) ∙ c.in-None.is in
    let rest : AtRest s = stood s.fault s none c.requires.stands in
    begun_ready (Came c.args.piece.now) s c.read.new.self none rest (λ i. omega (arith, c.type_inv.piece i)) c.requires.few (came_one c.args.piece.now s) c.in_ok-read-in-None.ensures

pub settle-requires-clause-running : goal.settle-requires-clause-running
settle-requires-clause-running c = (ready c).running

pub settle-requires-clause-keeps : goal.settle-requires-clause-keeps
settle-requires-clause-keeps c = (ready c).keeps

pub settle-requires-clause-groups : goal.settle-requires-clause-groups
settle-requires-clause-groups c = (ready c).groups

pub settle-requires-clause-few : goal.settle-requires-clause-few
settle-requires-clause-few c = (ready c).few
