use Rattle.std.proofs.Common.{arith, subst}
use Rattle.std.proofs.lemmas.Result.{err_from_is_err_and}
use Rattle.script_sides.specs.declared.progress.Progress.{Progress}
use Rattle.script_sides.specs.Progressing.{Loaded}
use Rattle.script_sides.specs.Sided.{state_of}
use Rattle.script_sides.proofs.Backs.{ready_left}
use Rattle.script_sides.proofs.Loadings.{loading_part, loading_whole, loading_nothing, loading_stops, loading_ends}
use Rattle.script_sides.proofs.side.ScriptSide.load.Goals as goal

pub returns-in_err-load_some-clause-loads : goal.returns-in_err-load_some-clause-loads
returns-in_err-load_some-clause-loads c =
    let p = err_from_is_err_and c.from_residual.result c.from_residual.ensures.1 in
    rw (p.1, p.2)
    (λ n. loading_stops c.args.words c.parts.left c.args.self.now c.parts.self c.load_some.new.self c.in_err-load_some.field-0.0 c.parts.invariant (omega (arith, c.parts-test.true)) (c.in_err-load_some.ensures.loads n))

pub returns-in-Nothing-clause-loads : goal.returns-in-Nothing-clause-loads
returns-in-Nothing-clause-loads c =
    loading_nothing c.args.words c.parts.left c.args.self.now c.parts.self c.load_some.new.self c.parts.invariant
    (subst (λ (it : Progress). Loaded c.parts.left (state_of c.parts.self) (state_of c.load_some.new.self) it) c.in-Nothing.is c.in_ok-load_some.ensures.loads)

pub parts-preserved-in-Part : goal.parts-preserved-in-Part
parts-preserved-in-Part c =
    loading_part c.args.words c.parts.left c.in-Part.count c.args.self.now c.parts.self c.load_some.new.self c.parts.invariant
    (subst (λ (it : Progress). Loaded c.parts.left (state_of c.parts.self) (state_of c.load_some.new.self) it) c.in-Part.is c.in_ok-load_some.ensures.loads)
    c.in_ok-load_some.ensures.leaves c.in_ok-load_some.ensures.wire

pub parts-preserved : goal.parts-preserved
parts-preserved c =
    loading_whole c.args.words c.parts.left c.in-Whole.count c.args.self.now c.parts.self c.load_some.new.self c.parts.invariant
    (subst (λ (it : Progress). Loaded c.parts.left (state_of c.parts.self) (state_of c.load_some.new.self) it) c.in-Whole.is c.in_ok-load_some.ensures.loads)
    c.in_ok-load_some.ensures.leaves c.in_ok-load_some.ensures.wire

pub returns-clause-loads : goal.returns-clause-loads
returns-clause-loads c =
    loading_ends c.args.words c.parts.left c.args.self.now c.parts.self c.parts.invariant (omega (arith, c.parts-test.false)) (ready_left c.parts.self c.parts.invariant.stays.ready.sound)
