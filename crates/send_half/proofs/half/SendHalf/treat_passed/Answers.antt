use Rattle.std.proofs.Common.{◌∙◌, sym, ap, subst}
use Rattle.wp_outside.specs.declared.kinds.Side.{Side}
use Rattle.wl_tables.specs.declared.way.Way.{Way}
use Rattle.wl_tables.specs.Ways.{own_way}
use Rattle.half_model.specs.Planning.{handle_refusal, kind_carried}
use Rattle.send_half.specs.SendState.{SendState, tables_of}
use Rattle.send_half.specs.Stages.{admission, turn_passed}
use Rattle.send_half.specs.Treating.{Goes}
use Rattle.send_half.specs.contracts.half.SendHalf.{the_view}
use Rattle.send_half.proofs.PassLemmas.{goes_checked}
use Rattle.send_half.proofs.half.SendHalf.treat_passed.Goals as goal

pub returns-in-Ok-clause-exact : goal.returns-in-Ok-clause-exact
returns-in-Ok-clause-exact c =
    let side = ap (λ (s : SendState). s.side) c.self.view_is ∙ sym c.requires.side in
    let kind = c.kind_carried-kind.ensures ∙ ap (λ (way : Way). kind_carried way c.args.passed) (c.of_peer.ensures ∙ ap own_way side) in
    let none = ap (λ (sd : Side). handle_refusal sd c.kind_carried-kind.result c.take_handle_for-handle.result) (sym side) ∙ c.in-Ok.ensures in
    subst (λ (s : SendState). Goes c.treat_handled.result
    (turn_passed (tables_of c.args.objects.now c.args.handles.now c.args.pipes.now) s.sending c.args.message (admission c.args.passed c.args.objects.now.tracked))
    (tables_of c.args.objects.now c.args.handles.now c.args.pipes.now)
    (tables_of c.treat_handled.new.objects c.treat_handled.new.handles c.treat_handled.new.pipes) s c.treat_handled.new.self)
    c.self.view_is
    (goes_checked c.treat_handled.result c.args.handles.now c.args.pipes.now _ (the_view c.self.inside) c.treat_handled.new.self c.args.message c.args.passed
    c.args.objects.now c.kind_carried-kind.result c.take_handle_for-handle.result c.take_handle_for-handle.new.self kind
    c.take_handle_for-handle.ensures.handle c.take_handle_for-handle.ensures.rest none c.treat_handled.ensures.exact)
