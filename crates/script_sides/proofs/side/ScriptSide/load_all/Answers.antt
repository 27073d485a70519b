use Rattle.std.proofs.Common.{Bool, None, Some, Ok, subst}
use Rattle.std.proofs.lemmas.Result.{err_from_is_err_and}
use Rattle.script_sides.specs.Progressing.{LoadsMessage}
use Rattle.script_sides.specs.Sided.{state_of}
use Rattle.script_sides.proofs.Loadings.{rest_less, emptying_more, all_stops, all_nothing}
use Rattle.script_sides.proofs.side.ScriptSide.load_all.Goals as goal

pub returns-in_err-load_message-clause-loads : goal.returns-in_err-load_message-clause-loads
returns-in_err-load_message-clause-loads c =
    let p = err_from_is_err_and c.from_residual.result c.from_residual.ensures.1 in
    rw (p.1, p.2)
    (λ n. c.messages.invariant.on (state_of c.load_message.new.self) (Some c.in_err-load_message.field-0.0)
    (all_stops (state_of c.messages.self) (state_of c.load_message.new.self) c.in_err-load_message.field-0.0 (c.in_err-load_message.ensures.loads n)))

pub messages-smaller : goal.messages-smaller
messages-smaller c =
    rest_less (state_of c.messages.self) (state_of c.load_message.new.self)
    (subst (λ (it : Bool). LoadsMessage (state_of c.messages.self) (state_of c.load_message.new.self) (Ok it)) c.if-branch.true c.in_ok-load_message.ensures.loads)

pub messages-preserved : goal.messages-preserved
messages-preserved c =
    emptying_more c.args.self.now c.messages.self c.load_message.new.self c.messages.loaded c.messages.invariant
    (subst (λ (it : Bool). LoadsMessage (state_of c.messages.self) (state_of c.load_message.new.self) (Ok it)) c.if-branch.true c.in_ok-load_message.ensures.loads)
    c.in_ok-load_message.ensures.leaves c.in_ok-load_message.ensures.wire

pub returns-clause-loads : goal.returns-clause-loads
returns-clause-loads c =
    c.messages.invariant.on (state_of c.load_message.new.self) None
    (all_nothing (state_of c.messages.self) (state_of c.load_message.new.self)
    (subst (λ (it : Bool). LoadsMessage (state_of c.messages.self) (state_of c.load_message.new.self) (Ok it)) c.if-branch.false c.in_ok-load_message.ensures.loads))
