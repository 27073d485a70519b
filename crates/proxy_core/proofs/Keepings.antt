-- What each event keeps of a proxy that has not failed.
use Rattle.std.proofs.Common.{◌≡◌, ℕ, Bool, true, false, [], ◌∷◌, Option, Some, None, refl, sym, subst}
use Rattle.std.specs.Prelude.{is_some}
use Rattle.transfer_frames.specs.declared.frame.Frame.{Frame}
use Rattle.side_model.specs.Books.{grown}
use Rattle.side_model.specs.Due.{hear, group, treat, end, next}
use Rattle.side_model.specs.Events.{Event, Do, Rest, Heard, Chose, Up, Down, Lent, Gave, Told}
use Rattle.side_model.specs.Sound.{GroupFits, Admits}
use Rattle.side_model.specs.State.{Now}
use Rattle.side_model.specs.Steps.{step}
use Rattle.side_model.proofs.Calms.{still_rests, up_rests}
use Rattle.side_model.proofs.Dues.{rests, is_quiet}
use Rattle.side_model.proofs.FollowsAll.{follows_outside, follows_inside}
use Rattle.side_model.proofs.Quiets.{chose_rests}
use Rattle.side_model.proofs.Sounds.{sound_outside}
use Rattle.side_model.proofs.SoundsInside.{sound_inside}
use Rattle.side_model.proofs.Stopping.{group_fits}
use Rattle.proxy_core.specs.Doing.{Goes}
use Rattle.side_model.specs.declared.fault.ProxyFault.{ProxyFault}
use Rattle.proxy_core.specs.Keeping.{Keeps, AtRest, Stands}
use Rattle.proxy_core.specs.Treating.{Chooses}
use Rattle.proxy_core.proofs.Partings.{choose_does}

pub fits : (s : Now) → Keeps s → GroupFits s
fits s k = group_fits s k.book k.follows

abbrev pub keeps_inside : (event : Event) (s : Now) → Keeps s → next s ≡ Do event → Keeps (step event s)
keeps_inside event s k due = record {
  sound = sound_inside event s k.sound (fits s k) due;
  book = grown event s k.book;
  follows = follows_inside event s k.book k.follows due;
}

pub keeps_outside : (event : Event) (s : Now) → AtRest s → Admits event s → Keeps (step event s)
keeps_outside event s r a = record {
  sound = sound_outside event s r.keeps.sound a;
  book = grown event s r.keeps.book;
  follows = follows_outside event s r.keeps.book r.keeps.follows r.rests a;
}

pub rests_told : (s : Now) → AtRest s → AtRest (step Told s)
rests_told s r = record { keeps = keeps_outside Told s r tt; rests = still_rests.told s r.rests }

pub rests_gave : (s : Now) → AtRest s → AtRest (step Gave s)
rests_gave s r = record { keeps = keeps_outside Gave s r tt; rests = still_rests.gave s r.rests }

pub rests_lent : (s : Now) → AtRest s → AtRest (step Lent s)
rests_lent s r = record { keeps = keeps_outside Lent s r tt; rests = still_rests.lent s r.rests }

pub rests_down : (s : Now) → AtRest s → AtRest (step Down s)
rests_down s r = record { keeps = keeps_outside Down s r tt; rests = still_rests.down s r.rests }

pub rests_up : (s : Now) (connection : ℕ) → AtRest s → Admits (Up connection) s → AtRest (step (Up connection) s)
rests_up s connection r a = record { keeps = keeps_outside (Up connection) s r a; rests = up_rests s connection a.0 r.rests }

-- no group is due behind a frame that is heard
pub heard_groups : (s : Now) (frame : Frame) → group s ≡ Rest → group (step (Heard frame) s) ≡ Rest
unfolding step group
heard_groups s frame e = e

-- ---- the last phase

pub record Chosen (old new : Now) : Type 0 where
  pub goes : Goes old new
  pub rests : AtRest new

pub chosen_rests : (went : Bool) (old new : Now) → Keeps old → hear old ≡ Rest → group old ≡ Rest → treat old ≡ Rest → end old ≡ Rest → Chooses went old new → Chosen old new
chosen_rests true old new k a b c d h =
    let due : next old ≡ Do Chose = choose_does old Chose a b c d h.0 in
    let at : AtRest (step Chose old) = record { keeps = keeps_inside Chose old k due; rests = chose_rests old k.sound a b c d (is_quiet old a) } in
    record { goes = (Chose ∷ [], (due, h.1)); rests = subst (λ (u : Now). AtRest u) (sym h.1) at }
chosen_rests false old new k a b c d h =
    let at : AtRest old = record { keeps = k; rests = rests old (record { hears = a; groups = b; treats = c; ends = d; chooses = h.0 }) } in
    record { goes = ([], h.1); rests = subst (λ (u : Now). AtRest u) (sym h.1) at }

-- ---- where it has not failed

pub none_of : {X : Type 0} (found : Option X) → is_some found ≡ false → found ≡ None
none_of None e = refl
none_of (Some x) e = absurd cc

pub stood : (fault : Option ProxyFault) (s : Now) → fault ≡ None → Stands fault s → AtRest s
stood None s e h = h
stood (Some fault) s e h = absurd cc

pub stands_none : (fault : Option ProxyFault) (s : Now) → fault ≡ None → AtRest s → Stands fault s
stands_none None s e h = h
stands_none (Some fault) s e h = absurd cc
