use Rattle.std.proofs.Common.{Err, ap, sym, ◌∙◌, arith}
use Rattle.std.proofs.lemmas.Result.{err_from_is_err_and}
use Rattle.wl_text.proofs.TextArgsLemmas.{with_said_none, args_end, args_none, args_more, fault_tells}
use Rattle.wl_text.proofs.arg_reading.args_at.Goals as goal

pub slots-init : goal.slots-init
slots-init c = rw c.new-said.ensures (sym (with_said_none _))

pub returns-in_err-it : goal.returns-in_err-it
returns-in_err-it c =
    let given = err_from_is_err_and c.from_residual.result c.from_residual.ensures.1 in
    rw (given.1 ∙ ap Err given.2)
    (fault_tells c.in_err-it.field-0.0 _ _ c.in_err-it.ensures
    (args_none c.args.signature.now.slots _ c.slots.said c.slots.word.now c.slots.rest.now c.slots.i c.slots.invariant c.slot.result c.slot.ensures))

pub slots-preserved : goal.slots-preserved
slots-preserved c =
    rw c.in_ok-push.ensures
    (args_more c.args.signature.now.slots _ c.slots.said c.slots.word.now c.slots.rest.now c.slots.i c.slots.invariant c.slot.result c.in_ok-it.it c.in_ok-it.after.now c.slot.ensures (sym c.in_ok-it.ensures))

pub returns : goal.returns
returns c = args_end c.args.signature.now.slots _ c.slots.said c.slots.word.now c.slots.rest.now c.slots.i c.slots.invariant (omega arith)
