-- CLOSE is made just where it is due.
use Rattle.std.proofs.Common.{◌≡◌, false, refl, sym, ap, ◌∙◌}
use Rattle.std.specs.Prelude.{is_some}
use Rattle.half_model.specs.Turn.{waits_in}
use Rattle.side_model.specs.State.{Now, Asked, Made}
use Rattle.side_model.specs.Steps.{with_kept}
use Rattle.proxy_core.specs.declared.closing.Closing.TheVariants as wishes
use Rattle.proxy_core.specs.Inside.{now_of, closing_of}
use Rattle.proxy_core.proofs.Endings.{open_rests, made_rests, owing_rests, waiting_rests, closes, close_frame, close_places}
use Rattle.proxy_core.proofs.machine.Machine.end.Goals as goal

pub returns-in-Open-clause-rests : goal.returns-in-Open-clause-rests
returns-in-Open-clause-rests c = open_rests c.args.self.now (ap (λ (s : Now). s.kept.closing) (sym c.self.view_is) ∙ ap closing_of c.in-Open.is)

pub returns-in-Made-clause-rests : goal.returns-in-Made-clause-rests
returns-in-Made-clause-rests c = made_rests c.args.self.now (ap (λ (s : Now). s.kept.closing) (sym c.self.view_is) ∙ ap closing_of c.in-Made.is)

pub returns-then-waiting-clause-rests : goal.returns-then-waiting-clause-rests
returns-then-waiting-clause-rests c =
    owing_rests c.args.self.now (ap (λ (s : Now). is_some s.live.sending.owes) (sym c.self.view_is) ∙ sym c.waiting.ensures ∙ c.if-waiting.true)

pub returns-then-stands-clause-rests : goal.returns-then-stands-clause-rests
returns-then-stands-clause-rests c =
    waiting_rests c.args.self.now (ap (λ (s : Now). waits_in s.live.sending) (sym c.self.view_is) ∙ sym c.stands.ensures ∙ c.if-stands.true)

pub make_lone-requires-clause-frame : goal.make_lone-requires-clause-frame
make_lone-requires-clause-frame c =
    close_frame c.args.self.now c.in-Asked.reason c.requires.keeps (ap (λ (s : Now). s.kept.closing) (sym c.self.view_is) ∙ ap closing_of c.in-Asked.is)

pub make_lone-requires-clause-places : goal.make_lone-requires-clause-places
make_lone-requires-clause-places c =
    close_places c.args.self.now c.in-Asked.reason c.requires.keeps (ap (λ (s : Now). s.kept.closing) (sym c.self.view_is) ∙ ap closing_of c.in-Asked.is) c.requires.few

pub returns-clause-went : goal.returns-clause-went
returns-clause-went c =
    let s = c.args.self.now in
    let asked : s.kept.closing ≡ Asked c.in-Asked.reason = ap (λ (s : Now). s.kept.closing) (sym c.self.view_is) ∙ ap closing_of c.in-Asked.is in
    let owes : is_some s.live.sending.owes ≡ false = ap (λ (s : Now). is_some s.live.sending.owes) (sym c.self.view_is) ∙ sym c.waiting.ensures ∙ c.if-waiting.false in
    let waits : waits_in s.live.sending ≡ false = ap (λ (s : Now). waits_in s.live.sending) (sym c.self.view_is) ∙ sym c.stands.ensures ∙ c.if-stands.false in
    (closes s (now_of (record c.self-2.inside { closing = wishes.Made })) c.in-Asked.reason c.requires.keeps c.requires.still c.requires.treats asked owes waits
    (ap (λ (s : Now). with_kept (λ kept. record kept { closing = Made }) s) (c.self-2.view_is ∙ c.in_ok-make_lone.ensures.ok))).went

pub returns-clause-treats : goal.returns-clause-treats
returns-clause-treats c =
    let s = c.args.self.now in
    let asked : s.kept.closing ≡ Asked c.in-Asked.reason = ap (λ (s : Now). s.kept.closing) (sym c.self.view_is) ∙ ap closing_of c.in-Asked.is in
    let owes : is_some s.live.sending.owes ≡ false = ap (λ (s : Now). is_some s.live.sending.owes) (sym c.self.view_is) ∙ sym c.waiting.ensures ∙ c.if-waiting.false in
    let waits : waits_in s.live.sending ≡ false = ap (λ (s : Now). waits_in s.live.sending) (sym c.self.view_is) ∙ sym c.stands.ensures ∙ c.if-stands.false in
    (closes s (now_of (record c.self-2.inside { closing = wishes.Made })) c.in-Asked.reason c.requires.keeps c.requires.still c.requires.treats asked owes waits
    (ap (λ (s : Now). with_kept (λ kept. record kept { closing = Made }) s) (c.self-2.view_is ∙ c.in_ok-make_lone.ensures.ok))).treats

pub returns-clause-rests : goal.returns-clause-rests
returns-clause-rests c = made_rests (now_of (record c.self-2.inside { closing = wishes.Made })) refl
