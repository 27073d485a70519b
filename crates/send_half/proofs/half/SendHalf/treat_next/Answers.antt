use Rattle.std.proofs.Common.{◌∙◌, sym, ap}
use Rattle.send_half.specs.SendState.{SendState, tables_of}
use Rattle.send_half.proofs.TurnLemmas.{next_is, front_next, owes_none, no_frames}
use Rattle.send_half.proofs.half.SendHalf.treat_next.Goals as goal

pub returns-clause-exact : goal.returns-clause-exact
returns-clause-exact c =
    let owes =
    ap (λ (s : SendState). s.sending.owes) (sym c.self.view_is)
    ∙ owes_none _ (sym c.is_some.ensures ∙ c.if-is_some.false)
    in
    let frames =
    ap (λ (s : SendState). s.frames) (sym c.self.view_is)
    ∙ no_frames _ (sym c.has_frames.ensures ∙ c.if-has_frames.false)
    in
    front_next c.treat_front.result _ _ c.args.objects.now c.args.handles.now c.args.pipes.now _ c.args.self.now c.treat_front.new.self
    (next_is (tables_of c.args.objects.now c.args.handles.now c.args.pipes.now) c.args.self.now owes frames) c.treat_front.ensures.exact
