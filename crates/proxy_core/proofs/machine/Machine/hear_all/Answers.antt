-- Each frame that is heard leads on, and a fault ends the row.
use Rattle.std.proofs.Common.{Bool, Ok, subst}
use Rattle.std.proofs.lemmas.Result.{err_from_is_err_and}
use Rattle.side_model.specs.Due.{hear}
use Rattle.proxy_core.specs.Doing.{Did}
use Rattle.proxy_core.proofs.Phases.{hearing_on, hearing_fails}
use Rattle.proxy_core.proofs.machine.Machine.hear_all.Goals as goal

pub frames-preserved : goal.frames-preserved
frames-preserved c =
    hearing_on c.args.self.now c.frames.self c.hear_one.new.self c.frames.invariant
    (subst (λ (b : Bool). Did (Ok b) (hear c.frames.self) c.frames.self c.hear_one.new.self) c.if-not-branch.false c.in_ok-hear_one.ensures.did)

pub returns-in_err-hear_one-clause-fails : goal.returns-in_err-hear_one-clause-fails
returns-in_err-hear_one-clause-fails c =
    let p = err_from_is_err_and c.from_residual.result c.from_residual.ensures.1 in
    rw (p.1, p.2) (hearing_fails _ c.args.self.now c.frames.self c.hear_one.new.self c.frames.invariant c.in_err-hear_one.ensures.did)
