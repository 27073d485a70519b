-- CLOSE is made just where it is due.
use Rattle.std.proofs.Common.{◌≡◌, ℕ, ◌<◌, Bool, true, false, ◌&&◌, [], ◌∷◌, Option, Some, None, refl, sym, ap, subst, ◌∙◌, inr, arith}
use Rattle.std.specs.Prelude.{is_none, is_some, not}
use Rattle.transfer_frames.specs.declared.frame.Frame.TheVariants.{Close}
use Rattle.transfer_frames.specs.Grammar.{IsFrame, spelling}
use Rattle.transfer_frames.specs.Numbers.{IsWord}
use Rattle.transfer_frames.proofs.NumberLaws.{length-word_bytes}
use Rattle.half_model.specs.Group.{Owed}
use Rattle.half_model.specs.Turn.{waits_in}
use Rattle.side_model.specs.Due.{hear, group, treat, end, end_on}
use Rattle.side_model.specs.Events.{Ended, Do, Rest}
use Rattle.side_model.specs.Follows.{ClosingFollows}
use Rattle.side_model.specs.Sound.{reserved_close}
use Rattle.side_model.specs.State.{Now, Closing, Open, Asked, Made}
use Rattle.side_model.specs.Steps.{step, ended, with_kept, made, alone}
use Rattle.side_model.proofs.Calms.{waits_idle}
use Rattle.side_model.proofs.Dues.{is_quiet, hears_none, treats_none}
use Rattle.side_model.proofs.Quiets.{quiet_worked}
use Rattle.side_model.proofs.Sounds.{kept_close}
use Rattle.proxy_core.specs.Doing.{Goes}
use Rattle.proxy_core.specs.Keeping.{Keeps, MOST_MADE}
use Rattle.proxy_core.specs.Making.{HasPlaces}
use Rattle.proxy_core.specs.Treating.{IsStill, GoesOn}
use Rattle.proxy_core.proofs.Keepings.{keeps_inside}
use Rattle.proxy_core.proofs.Partings.{goes_none, goes_one, end_does}

-- nothing happens
pub stays : (s : Now) → Keeps s → IsStill s → GoesOn s s
stays s k still = record { goes = goes_none s; keeps = k; still = still; acknowledged = refl }

-- nothing is due,
pub open_rests : (s : Now) → s.kept.closing ≡ Open → end s ≡ Rest
unfolding end
open_rests s e = ap (λ (closing : Closing). end_on closing (is_none s.live.sending.owes && not (waits_in s.live.sending))) e

pub made_rests : (s : Now) → s.kept.closing ≡ Made → end s ≡ Rest
unfolding end
made_rests s e = ap (λ (closing : Closing). end_on closing (is_none s.live.sending.owes && not (waits_in s.live.sending))) e

on_false : (closing : Closing) → end_on closing false ≡ Rest
on_false Open = refl
on_false (Asked reason) = refl
on_false Made = refl

pub owing_rests : (s : Now) → is_some s.live.sending.owes ≡ true → end s ≡ Rest
unfolding end
owing_rests s e = ap (end_on s.kept.closing) (by_owes s.live.sending.owes e) ∙ on_false s.kept.closing
  where
    by_owes : (owes : Option Owed) → is_some owes ≡ true → (is_none owes && not (waits_in s.live.sending)) ≡ false
    by_owes None d = absurd cc
    by_owes (Some owed) d = refl

pub waiting_rests : (s : Now) → waits_in s.live.sending ≡ true → end s ≡ Rest
unfolding end
waiting_rests s e = ap (end_on s.kept.closing) (ap (λ (b : Bool). is_none s.live.sending.owes && not b) e ∙ by_owes s.live.sending.owes) ∙ on_false s.kept.closing
  where
    by_owes : (owes : Option Owed) → (is_none owes && false) ≡ false
    by_owes None = refl
    by_owes (Some owed) = refl

-- or CLOSE is
none_some : (owes : Option Owed) → is_some owes ≡ false → owes ≡ None
none_some None e = refl
none_some (Some owed) e = absurd cc

end_due : (s : Now) (reason : ℕ) → s.kept.closing ≡ Asked reason → s.live.sending.owes ≡ None → waits_in s.live.sending ≡ false → end s ≡ Do Ended
unfolding end
end_due s reason e owes waits =
    ap (λ (closing : Closing). end_on closing (is_none s.live.sending.owes && not (waits_in s.live.sending))) e
    ∙ ap (λ (o : Option Owed). end_on (Asked reason) (is_none o && not (waits_in s.live.sending))) owes
    ∙ ap (λ (b : Bool). end_on (Asked reason) (not b)) waits

ended_is : (s : Now) (reason : ℕ) → s.kept.closing ≡ Asked reason → step Ended s ≡ with_kept (λ kept. made (alone (Close reason)) (record kept { closing = Made })) s
unfolding step
ended_is s reason e = ap (λ (closing : Closing). ended closing s) e

-- and then nothing is to be treated, nor to end
pub record Closes (s new : Now) : Type 0 where
  pub went : GoesOn s new
  pub treats : treat new ≡ Rest
  pub rests : end new ≡ Rest

closed_groups : (s : Now) (reason : ℕ) → s.kept.closing ≡ Asked reason → group s ≡ Rest → group (with_kept (λ kept. made (alone (Close reason)) (record kept { closing = Made })) s) ≡ Rest
unfolding group
closed_groups s reason e g = g

pub closes : (s new : Now) (reason : ℕ) → Keeps s → IsStill s → treat s ≡ Rest → s.kept.closing ≡ Asked reason → is_some s.live.sending.owes ≡ false → waits_in s.live.sending ≡ false
    → new ≡ with_kept (λ kept. made (alone (Close reason)) (record kept { closing = Made })) s → Closes s new
closes s new reason k still t e owes waits is =
    let closed : Now = with_kept (λ kept. made (alone (Close reason)) (record kept { closing = Made })) s in
    let due : end s ≡ Do Ended = end_due s reason e (none_some s.live.sending.owes owes) waits in
    let after : step Ended s ≡ closed = ended_is s reason e in
    let goes : Goes s (step Ended s) = goes_one s Ended (end_does s Ended still.hears still.groups t due) in
    let keeps : Keeps (step Ended s) = keeps_inside Ended s k (end_does s Ended still.hears still.groups t due) in
    let quiet : hear (step Ended s) ≡ Rest = hears_none (step Ended s) (quiet_worked Ended s (inr (inr refl)) (is_quiet s still.hears)) in
    let all : Closes s closed = record {
      went = record {
        goes = subst (λ (u : Now). Goes s u) after goes;
        keeps = subst (λ (u : Now). Keeps u) after keeps;
        still = record { hears = subst (λ (u : Now). hear u ≡ Rest) after quiet; groups = closed_groups s reason e still.groups };
        acknowledged = refl;
      };
      treats = treats_none closed (inr (waits_idle closed.live.tables closed.live.sending waits));
      rests = made_rests closed refl;
    } in
    subst (λ (u : Now). Closes s u) (sym is) all

-- ---- what CLOSE needs

pub close_frame : (s : Now) (reason : ℕ) → Keeps s → s.kept.closing ≡ Asked reason → IsFrame (Close reason)
close_frame s reason k e =
    let word : IsWord reason = subst (λ (closing : Closing). ClosingFollows closing (is_none s.live.sending.owes) (waits_in s.live.sending)) e k.follows.closes in
    record { fields = word; fits = omega (arith, length-word_bytes reason) }

pub close_places : (s : Now) (reason : ℕ) → Keeps s → s.kept.closing ≡ Asked reason → s.kept.ring.acknowledged < MOST_MADE → HasPlaces s.kept.ring (spelling (Close reason) ∷ [])
close_places s reason k e few =
    let one : reserved_close s.kept.closing ≡ 1 = ap reserved_close e in
    record {
      places = omega (arith, k.sound.places, one);
      counted = omega (arith, k.sound.places, one, few);
      sizes = ((kept_close reason).1, tt);
    }
