use Rattle.std.proofs.Common.{sym, ◌∙◌}
use Rattle.wl_text.proofs.PrintLemmas.{printed, both_parts}
use Rattle.wl_text.proofs.printing.append_message.Goals as goal

pub returns : goal.returns
returns c =
    let formed = sym c.in-Some-Some.is-0 ∙ rw (c.is_event-events.ensures, c.opcode-opcode.ensures) at c.signature-signature.ensures in
    let named = rw (c.is_event-events.ensures, c.opcode-opcode.ensures) at c.in-Some-Some.ensures in
    let text =
    printed c.args.interface c.args.way c.args.m.now c.args.handles.now c.in-Some-Some.signature c.in-Some-Some.name.now
    c.in-Ok.args formed named c.in-Ok.ensures.1 in
    let started = rw (c.object.ensures) at c.in_ok-put_start-in-Ok.ensures in
    let called = rw (c.as_slice.ensures) at c.put_call.ensures in
    both_parts c.put_call.result _ _ _ _ _ _ text started called
