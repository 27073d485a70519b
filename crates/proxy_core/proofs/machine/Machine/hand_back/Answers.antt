-- A copy is handed back, and the frames of its message are made just where it was the last one.
use Rattle.std.proofs.Common.{◌≡◌, ◌++◌, List, sym, ap, ◌∙◌, inl}
use Rattle.half_model.specs.declared.notes.Noted.{Noted}
use Rattle.half_model.specs.declared.causes.HalfFault.TheVariants as halves
use Rattle.send_half.specs.SendState.{tables_of, with_done, after_done}
use Rattle.owed_groups.specs.Lending.{done_of}
use Rattle.send_half.specs.Treating.{Halts}
use Rattle.proxy_core.proofs.HandBacks.{Back, back_of, at_ok, at_err, Waiting, waiting_of, waiting_makes, Whole, whole_of, whole_fits, whole_makes, done_halts, whole_halts}
use Rattle.proxy_core.proofs.machine.Machine.hand_back.Goals as goal

pub returns-then-is_err-2-clause-hands : goal.returns-then-is_err-2-clause-hands
returns-then-is_err-2-clause-hands c =
    let it = c.self.inside in
    let done = done_of c.args.done in
    let back : Back it done = back_of it c.args.self.now done c.self.view_is c.self.invariant.runs c.requires.running c.requires.awaited c.requires.few c.requires.rests c.has_loads.ensures in
    let halts : Halts halves.Memory (with_done done it.sending) c.copy_done.new.self = at_err c.copy_done.result (Halts halves.Memory (with_done done it.sending) c.copy_done.new.self) (sym c.is_err-2.ensures.value ∙ c.if-is_err-2.true) c.copy_done.ensures.err in
    inl (done_halts it c.args.self.now done c.copy_done.new.self (tables_of it.objects it.handles it.pipes) c.reserve.new.self.items c.self.view_is back halts c.reserve.ensures.items)

pub returns-then-waiting-clause-hands : goal.returns-then-waiting-clause-hands
returns-then-waiting-clause-hands c =
    let it = c.self.inside in
    let done = done_of c.args.done in
    let back : Back it done = back_of it c.args.self.now done c.self.view_is c.self.invariant.runs c.requires.running c.requires.awaited c.requires.few c.requires.rests c.has_loads.ensures in
    let after : c.copy_done.new.self ≡ after_done done it.sending = at_ok c.copy_done.result (c.copy_done.new.self ≡ after_done done it.sending) (sym c.is_err-2.ensures.value ∙ c.if-is_err-2.false) c.copy_done.ensures.ok in
    let waiting : Waiting it done c.copy_done.new.self = waiting_of it done c.copy_done.new.self after (sym c.waiting.ensures ∙ c.if-waiting.true) in
    waiting_makes it c.args.self.now done c.copy_done.new.self c.reserve.new.self.items c.self.view_is back waiting c.reserve.ensures.items

pub take_made-requires-clause-frames : goal.take_made-requires-clause-frames
take_made-requires-clause-frames c =
    let it = c.self.inside in
    let done = done_of c.args.done in
    let back : Back it done = back_of it c.args.self.now done c.self.view_is c.self.invariant.runs c.requires.running c.requires.awaited c.requires.few c.requires.rests c.has_loads.ensures in
    let after : c.copy_done.new.self ≡ after_done done it.sending = at_ok c.copy_done.result (c.copy_done.new.self ≡ after_done done it.sending) (sym c.is_err-2.ensures.value ∙ c.if-is_err-2.false) c.copy_done.ensures.ok in
    (whole_fits it done c.copy_done.new.self back (whole_of it done c.copy_done.new.self back after (sym c.waiting.ensures ∙ c.if-waiting.false))).0

pub take_made-requires-clause-places : goal.take_made-requires-clause-places
take_made-requires-clause-places c =
    let it = c.self.inside in
    let done = done_of c.args.done in
    let back : Back it done = back_of it c.args.self.now done c.self.view_is c.self.invariant.runs c.requires.running c.requires.awaited c.requires.few c.requires.rests c.has_loads.ensures in
    let after : c.copy_done.new.self ≡ after_done done it.sending = at_ok c.copy_done.result (c.copy_done.new.self ≡ after_done done it.sending) (sym c.is_err-2.ensures.value ∙ c.if-is_err-2.false) c.copy_done.ensures.ok in
    (whole_fits it done c.copy_done.new.self back (whole_of it done c.copy_done.new.self back after (sym c.waiting.ensures ∙ c.if-waiting.false))).1

pub returns-in-Ok-clause-hands : goal.returns-in-Ok-clause-hands
returns-in-Ok-clause-hands c =
    let it = c.self.inside in
    let done = done_of c.args.done in
    let back : Back it done = back_of it c.args.self.now done c.self.view_is c.self.invariant.runs c.requires.running c.requires.awaited c.requires.few c.requires.rests c.has_loads.ensures in
    let after : c.copy_done.new.self ≡ after_done done it.sending = at_ok c.copy_done.result (c.copy_done.new.self ≡ after_done done it.sending) (sym c.is_err-2.ensures.value ∙ c.if-is_err-2.false) c.copy_done.ensures.ok in
    let whole : Whole it done c.copy_done.new.self = whole_of it done c.copy_done.new.self back after (sym c.waiting.ensures ∙ c.if-waiting.false) in
    whole_makes it c.args.self.now done c.copy_done.new.self c.take_made.new.half c.take_made.new.notes.items c.take_made.new.ring c.self.view_is back whole c.in-Ok.ensures.all
    (c.in-Ok.ensures.noted ∙ ap (λ (ns : List Noted). ns ++ c.copy_done.new.self.noted) c.reserve.ensures.items) c.in-Ok.ensures.pushed

pub returns-in-Err-clause-hands : goal.returns-in-Err-clause-hands
returns-in-Err-clause-hands c =
    let it = c.self.inside in
    let done = done_of c.args.done in
    let back : Back it done = back_of it c.args.self.now done c.self.view_is c.self.invariant.runs c.requires.running c.requires.awaited c.requires.few c.requires.rests c.has_loads.ensures in
    let after : c.copy_done.new.self ≡ after_done done it.sending = at_ok c.copy_done.result (c.copy_done.new.self ≡ after_done done it.sending) (sym c.is_err-2.ensures.value ∙ c.if-is_err-2.false) c.copy_done.ensures.ok in
    let whole : Whole it done c.copy_done.new.self = whole_of it done c.copy_done.new.self back after (sym c.waiting.ensures ∙ c.if-waiting.false) in
    inl (whole_halts it c.args.self.now done c.behind-past.result c.copy_done.new.self c.take_made.new.half (tables_of it.objects it.handles it.pipes) c.take_made.new.notes.items c.take_made.new.ring c.self.view_is back whole
    c.behind-past.ensures c.in-Err.ensures.rest (c.in-Err.ensures.same_notes ∙ c.reserve.ensures.items) c.in-Err.ensures.same_ring)
