use Rattle.std.proofs.Common.{◌∙◌, ℕ, List, Option, Ok, ap, subst}
use Rattle.wl_wire.specs.Wire.{first}
use Rattle.half_model.specs.Turn.{turn_front}
use Rattle.send_half.specs.SendState.{SendState, tables_of}
use Rattle.send_half.specs.Treating.{Took, Refused, Stays, front_taken}
use Rattle.send_half.specs.contracts.half.SendHalf.{the_view}
use Rattle.send_half.proofs.PassLemmas.{front_taken_is, front_refused_is}
use Rattle.send_half.proofs.half.SendHalf.treat_front.Goals as goal

pub returns-in-Ok-clause-exact : goal.returns-in-Ok-clause-exact
returns-in-Ok-clause-exact c =
    let front = c.in-Ok-Some.ensures.exact ∙ ap (λ (o : Option (List ℕ)). Ok o) c.in-Ok-Some.field-0-is in
    let inlet = c.in-Ok-Some.ensures.ok ∙ ap (λ (o : Option (List ℕ)). front_taken o c.self.inside.inlet) c.in-Ok-Some.field-0-is in
    subst (λ (s : SendState). Took
    (turn_front (tables_of c.args.objects.now c.args.handles.now c.args.pipes.now) s.sending (first s.sending.inlet.bytes))
    (tables_of c.treat_message.new.objects c.treat_message.new.handles c.treat_message.new.pipes) s c.treat_message.new.self)
    c.self.view_is
    (front_taken_is c.args.objects.now c.args.handles.now c.args.pipes.now (tables_of c.treat_message.new.objects c.treat_message.new.handles c.treat_message.new.pipes)
    (the_view c.self.inside) c.treat_message.new.self c.in-Ok-Some.message c.next_message.new.self (first c.self.inside.inlet.bytes) front inlet c.in-Ok.ensures.exact)

pub returns-in-Err-clause-exact : goal.returns-in-Err-clause-exact
returns-in-Err-clause-exact c =
    let front = c.in-Ok-Some.ensures.exact ∙ ap (λ (o : Option (List ℕ)). Ok o) c.in-Ok-Some.field-0-is in
    let inlet = c.in-Ok-Some.ensures.ok ∙ ap (λ (o : Option (List ℕ)). front_taken o c.self.inside.inlet) c.in-Ok-Some.field-0-is in
    subst (λ (s : SendState). Refused c.in-Err.fault
    (turn_front (tables_of c.args.objects.now c.args.handles.now c.args.pipes.now) s.sending (first s.sending.inlet.bytes))
    (tables_of c.args.objects.now c.args.handles.now c.args.pipes.now)
    (tables_of c.treat_message.new.objects c.treat_message.new.handles c.treat_message.new.pipes) × Stays s c.treat_message.new.self)
    c.self.view_is
    (front_refused_is c.in-Err.fault c.args.objects.now c.args.handles.now c.args.pipes.now
    (tables_of c.treat_message.new.objects c.treat_message.new.handles c.treat_message.new.pipes)
    (the_view c.self.inside) c.treat_message.new.self c.in-Ok-Some.message c.next_message.new.self (first c.self.inside.inlet.bytes) front inlet c.in-Err.ensures.exact)
