-- Each message that is taken leads on, and a fault ends the row.
use Rattle.std.proofs.Common.{Bool, Ok, subst}
use Rattle.std.proofs.lemmas.Result.{err_from_is_err_and}
use Rattle.proxy_core.specs.Treating.{Treats}
use Rattle.proxy_core.proofs.Phases.{treating_first, treating_on, treating_fails}
use Rattle.proxy_core.proofs.machine.Machine.treat_all.Goals as goal

pub messages-init : goal.messages-init
messages-init c = treating_first c.args.self.now c.requires.running c.requires.keeps c.requires.still

pub messages-preserved : goal.messages-preserved
messages-preserved c =
    treating_on c.args.self.now c.messages.self c.treat_one.new.self c.messages.invariant
    (subst (λ (b : Bool). Treats (Ok b) c.messages.self c.treat_one.new.self) c.if-not-branch.false c.in_ok-treat_one.ensures.treats)
    c.in_ok-treat_one.ensures.goes_on

pub returns-in_err-treat_one-clause-fails : goal.returns-in_err-treat_one-clause-fails
returns-in_err-treat_one-clause-fails c =
    let p = err_from_is_err_and c.from_residual.result c.from_residual.ensures.1 in
    rw (p.1, p.2) (treating_fails _ c.args.self.now c.messages.self c.treat_one.new.self c.messages.invariant c.in_err-treat_one.ensures.treats)
