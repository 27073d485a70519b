-- A frame of the ring of which a part is written stays the front.
use Rattle.std.proofs.Common.{◌∙◌, subst, sym, ap}
use Rattle.side_model.specs.Events.{Went}
use Rattle.side_model.specs.Sound.{Sound}
use Rattle.side_model.specs.State.{Now}
use Rattle.side_model.specs.Steps.{step}
use Rattle.proxy_core.specs.Inside.{now_of}
use Rattle.proxy_core.proofs.Writings.{wrote_part, few_sent}
use Rattle.proxy_core.proofs.machine.Machine.write.Goals as goal

pub sent_whole-requires-clause-few : goal.sent_whole-requires-clause-few
sent_whole-requires-clause-few c =
    let sound : Sound (now_of c.self.inside) = subst (λ (s : Now). Sound s) (sym c.self.view_is) c.requires.sound in
    few_sent c.self.inside c.in-Some.link c.in-Kept.sent c.in-Some.is c.in-Kept.is sound c.made-made.ensures.sound.made

pub returns-then-count-end : goal.returns-then-count-end
returns-then-count-end c =
    wrote_part c.self.inside c.in-Some.link c.in-Kept.sent c.args.count c.at-end.result.now c.in-Some.is c.in-Kept.is c.at-end.ensures.bytes c.if-count-end.true
    ∙ ap (step (Went c.args.count)) c.self.view_is
