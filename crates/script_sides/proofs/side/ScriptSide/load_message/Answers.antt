use Rattle.std.proofs.lemmas.Result.{err_from_is_err_and}
use Rattle.script_sides.specs.Sided.{state_of}
use Rattle.script_sides.proofs.Loadings.{partly_stops}
use Rattle.script_sides.proofs.side.ScriptSide.load_message.Goals as goal

pub returns-in_err-load_some-clause-loads : goal.returns-in_err-load_some-clause-loads
returns-in_err-load_some-clause-loads c =
    let p = err_from_is_err_and c.from_residual.result c.from_residual.ensures.1 in
    rw (p.1, p.2)
    (λ n. partly_stops c.in_err-load_some.field-0.0 (state_of c.args.self.now) (state_of c.copies.self) (state_of c.load_some.new.self) c.copies.invariant.part (c.in_err-load_some.ensures.loads n))
