-- Where bytes of the front are sent, nothing but the choice of the next one is due.
use Rattle.std.proofs.Common.{◌≡◌, ℕ, ◌≤◌, Bool, [], Option, Some, None, length, sym, subst, ◌∙◌}
use Rattle.std.specs.Option.{MatchOption}
use Rattle.std.specs.Prelude.{option_map}
use Rattle.pair_model.specs.Steps.{Here, here_sent}
use Rattle.side_model.specs.declared.fault.ProxyFault.{ProxyFault}
use Rattle.side_model.specs.Due.{group, treat, end}
use Rattle.side_model.specs.Events.{Went}
use Rattle.side_model.specs.Shows.{front_of, front_here, unless_fault}
use Rattle.side_model.specs.Sound.{Sound}
use Rattle.side_model.specs.State.{Now}
use Rattle.side_model.specs.Steps.{step}
use Rattle.side_model.proofs.Dues.{AllRest, all_rest, IsQuiet, is_quiet, hears_none}
use Rattle.side_model.proofs.Parts.{same_step}
use Rattle.proxy_core.specs.Doing.{Settles}
use Rattle.proxy_core.specs.Keeping.{AtRest, Stands}
use Rattle.proxy_core.specs.Treating.{Chooses}
use Rattle.proxy_core.proofs.Keepings.{keeps_outside, chosen_rests, Chosen, stands_none}
use Rattle.proxy_core.proofs.Partings.{settles, goes_same}

-- what is lent is the front, where it has not failed
pub lent_front : (n : ℕ) (s : Now) → s.fault ≡ None → n ≤ length (front_of s) → n ≤ length (front_here s.live.here)
lent_front n s f l = subst (λ (fault : Option ProxyFault). n ≤ length (unless_fault fault (front_here s.live.here) [])) f l

quiet_sent : (n : ℕ) (here : Option Here) → IsQuiet here → IsQuiet (option_map (here_sent n) here)
quiet_sent n None q = tt
quiet_sent n (Some here) q = q

chosen_behind : (n : ℕ) (went : Bool) (s new : Now) → AtRest s → n ≤ length (front_here s.live.here) → Chooses went (step (Went n) s) new → Chosen (step (Went n) s) new
unfolding step group treat end
chosen_behind n went s new r l c =
    let h : AllRest s = all_rest s r.rests in
    chosen_rests went (step (Went n) s) new (keeps_outside (Went n) s r l) (hears_none (step (Went n) s) (quiet_sent n s.live.here (is_quiet s h.hears))) h.groups h.treats h.ends c

-- what the choice needs,
pub record MayChoose (s : Now) : Type 0 where
  pub running : s.fault ≡ None
  pub sound : Sound s

pub sent_may : (n : ℕ) (s sent : Now) → s.fault ≡ None → AtRest s → n ≤ length (front_here s.live.here) → sent ≡ step (Went n) s → MayChoose sent
sent_may n s sent f r l is =
    let after : MayChoose (step (Went n) s) = record { running = (same_step (Went n) s).fault ∙ f; sound = (keeps_outside (Went n) s r l).sound } in
    subst (λ (u : Now). MayChoose u) (sym is) after

-- and that it is at rest then
pub record Sends (n : ℕ) (s new : Now) : Type 0 where
  pub settles : MatchOption s.fault (Settles (step (Went n) s) new) (λ _. new ≡ s)
  pub stands : Stands new.fault new

pub sends : (n : ℕ) (went : Bool) (s sent new : Now) → s.fault ≡ None → AtRest s → n ≤ length (front_here s.live.here) → sent ≡ step (Went n) s → Chooses went sent new → Sends n s new
sends n went s sent new f r l is c =
    let chosen : Chosen (step (Went n) s) new = chosen_behind n went s new r l (subst (λ (u : Now). Chooses went u new) is c) in
    record {
      settles = subst (λ (fault : Option ProxyFault). MatchOption fault (Settles (step (Went n) s) new) (λ _. new ≡ s)) (sym f) (settles (step (Went n) s) new chosen.goes chosen.rests.rests);
      stands = stands_none new.fault new ((goes_same (step (Went n) s) new chosen.goes).fault ∙ (same_step (Went n) s).fault ∙ f) chosen.rests;
    }
