use Rattle.std.proofs.Common.{◌∙◌, Err, option_map, refl, sym, ap, subst}
use Rattle.wp_outside.specs.declared.kinds.Side.{Side}
use Rattle.wl_tables.specs.declared.way.Way.{Way}
use Rattle.wl_tables.specs.Ways.{own_way}
use Rattle.half_model.specs.Deeds.{deed_of}
use Rattle.half_model.specs.Planning.{seen_from}
use Rattle.message_plans.specs.Making.{passing_in}
use Rattle.send_half.specs.SendState.{SendState, tables_of}
use Rattle.send_half.specs.Stages.{admission, turn_passing}
use Rattle.send_half.specs.Treating.{Goes}
use Rattle.send_half.specs.contracts.half.SendHalf.{the_view}
use Rattle.send_half.proofs.PlanLemmas.{goes_planned, goes_refused}
use Rattle.send_half.proofs.half.SendHalf.treat_passing.Goals as goal

pub returns-in-Ok-clause-exact : goal.returns-in-Ok-clause-exact
returns-in-Ok-clause-exact c =
    let side = ap (λ (s : SendState). s.side) c.self.view_is ∙ sym c.requires.side in
    let deed = c.deed_of-deed.ensures ∙ ap (λ (way : Way). deed_of way c.args.passed) (c.of_peer.ensures ∙ ap own_way side) in
    let seen = ap (λ (sd : Side). seen_from sd c.args.objects.now c.args.message) (sym side) ∙ c.in-Ok.ensures.seen in
    subst (λ (s : SendState). Goes c.treat_done.result
    (turn_passing (tables_of c.args.objects.now c.args.handles.now c.args.pipes.now) s.sending c.args.message
    (admission c.args.passed c.args.objects.now.tracked) (option_map (λ it. it.handle) c.args.passing) (option_map passing_in c.args.passing))
    (tables_of c.args.objects.now c.args.handles.now c.args.pipes.now)
    (tables_of c.plan-planned.new.objects c.treat_done.new.handles c.treat_done.new.pipes) s c.treat_done.new.self)
    c.self.view_is
    (goes_planned c.treat_done.result c.args.handles.now c.args.pipes.now _ (the_view c.self.inside) c.treat_done.new.self c.args.message c.args.passed _ _
    c.args.objects.now c.plan-planned.new.objects c.deed_of-deed.result c.take_note_for-note.result c.take_note_for-note.new.self c.plan-planned.new.shm c.in-Ok.planned
    deed c.in-Ok.ensures.limit c.take_note_for-note.ensures.note c.take_note_for-note.ensures.rest c.in-Ok.ensures.planned c.in-Ok.ensures.shm seen
    c.plan-planned.ensures.tracked (c.treat_done.ensures.exact c.plan-planned.new.objects))

pub returns-in-Err-clause-exact : goal.returns-in-Err-clause-exact
returns-in-Err-clause-exact c =
    let side = ap (λ (s : SendState). s.side) c.self.view_is ∙ sym c.requires.side in
    let deed = c.deed_of-deed.ensures ∙ ap (λ (way : Way). deed_of way c.args.passed) (c.of_peer.ensures ∙ ap own_way side) in
    let old = the_view c.self.inside in
    let new = record old { sending = record old.sending { inlet = c.take_note_for-note.new.self; shm = c.plan-planned.new.shm } } in
    subst (λ (s : SendState). Goes (Err c.in-Err.fault)
    (turn_passing (tables_of c.args.objects.now c.args.handles.now c.args.pipes.now) s.sending c.args.message
    (admission c.args.passed c.args.objects.now.tracked) (option_map (λ it. it.handle) c.args.passing) (option_map passing_in c.args.passing))
    (tables_of c.args.objects.now c.args.handles.now c.args.pipes.now)
    (tables_of c.plan-planned.new.objects c.args.handles.now c.args.pipes.now) s new)
    c.self.view_is
    (goes_refused c.in-Err.fault c.args.handles.now c.args.pipes.now c.plan-planned.new.objects old new c.args.message c.args.passed
    (option_map (λ it. it.handle) c.args.passing) (option_map passing_in c.args.passing)
    c.args.objects.now c.deed_of-deed.result deed c.in-Err.ensures.limit (record { side = refl; jobs = refl; frames = refl; receipts = refl; noted = refl; fault = refl }))
