-- The front that is chosen is the one that is due.
use Rattle.std.proofs.Common.{◌≡◌, ℕ, ◌<◌, true, List, Option, length, sym, ap, subst, ◌∙◌, arith}
use Rattle.transfer_frames.specs.declared.frame.Frame.TheVariants.{Ack}
use Rattle.pair_model.proofs.Rows.{spelling_long}
use Rattle.side_model.specs.Due.{choose}
use Rattle.side_model.specs.Events.{Chose}
use Rattle.side_model.specs.Sound.{Sound}
use Rattle.side_model.specs.State.{Now}
use Rattle.side_model.specs.Steps.{step}
use Rattle.proxy_core.specs.declared.link.Link.{Link}
use Rattle.proxy_core.specs.Inside.{now_of, IsJoined, IsCounted}
use Rattle.proxy_core.specs.Treating.{may_choose}
use Rattle.proxy_core.proofs.Choosings.{chose_kept, chose_none}
use Rattle.proxy_core.proofs.machine.Machine.choose.Goals as goal

pub invariant_of-self : goal.invariant_of-self
invariant_of-self c =
    let it = c.self.inside in
    let joined : IsJoined it.counts c.in-Some.link = subst (IsCounted it.counts) c.in-Some.is c.self.invariant.counted in
    let some : 0 < length c.ack.result = subst (λ (b : List ℕ). 0 < length b) (sym c.ack.ensures) (spelling_long (Ack c.accepted-accepted.result)) in
    record {
      runs = c.self.invariant.runs;
      past = c.self.invariant.past;
      counted = record { number = joined.number; answered = joined.answered; bytes = some };
    }

pub returns-then-link-made : goal.returns-then-link-made
returns-then-link-made c =
    let it = c.self.inside in
    let may : may_choose (now_of it).live.here ≡ true =
    ap (λ (s : Now). may_choose s.live.here) c.self.view_is ∙ sym c.may_choose.ensures ∙ c.if-not-may_choose.false in
    let sound : Sound (now_of it) = subst (λ (s : Now). Sound s) (sym c.self.view_is) c.requires.sound in
    let kept = chose_kept it c.in-Some.link c.in-Some.is may (omega (arith, c.if-link-accepted.false, c.accepted-accepted.ensures.exact)) (omega (arith, c.if-link-made.true, c.made.ensures.exact)) sound in
    (ap choose (sym c.self.view_is) ∙ kept.0, kept.1 ∙ ap (step Chose) c.self.view_is)

pub returns : goal.returns
returns c =
    let it = c.self.inside in
    let may : may_choose (now_of it).live.here ≡ true =
    ap (λ (s : Now). may_choose s.live.here) c.self.view_is ∙ sym c.may_choose.ensures ∙ c.if-not-may_choose.false in (
      ap choose (sym c.self.view_is)
          ∙ chose_none it c.in-Some.link c.in-Some.is may (omega (arith, c.if-link-accepted.false, c.accepted-accepted.ensures.exact)) (omega (arith, c.if-link-made.false, c.made.ensures.exact)),
      ap (λ (l : Option Link). now_of (record it { link = l })) (sym c.in-Some.is) ∙ c.self.view_is,
    )
