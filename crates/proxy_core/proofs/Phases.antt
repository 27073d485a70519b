-- The phases one after another: what holds while one is at work, and where it ends.
use Rattle.std.proofs.Common.{◌≡◌, ◌<◌, Bool, true, None, Ok, Err, length, drop, refl, sym, ap, subst, ◌∙◌, arith, length-drop, inl, inr, ◌⊎◌}
use Rattle.std.proofs.lemmas.List.{length-map}
use Rattle.transfer_frames.specs.Grammar.{spelling}
use Rattle.pair_model.specs.RingState.{ring_made}
use Rattle.side_model.specs.declared.fault.ProxyFault.{ProxyFault}
use Rattle.side_model.specs.declared.fault.ProxyFault.TheVariants.{Memory}
use Rattle.side_model.specs.Due.{hear, group, treat, end, next}
use Rattle.side_model.specs.Events.{Event, Heard, Do, Halt, Rest}
use Rattle.side_model.specs.State.{Now}
use Rattle.side_model.specs.Steps.{step}
use Rattle.side_model.proofs.Dues.{FrameDue, frame_due}
use Rattle.side_model.proofs.Parts.{same_step}
use Rattle.proxy_core.specs.Doing.{Goes, Fails, Settles, Did}
use Rattle.proxy_core.specs.Hearing.{HearsAll}
use Rattle.proxy_core.specs.Keeping.{Keeps, AtRest, MOST_MADE}
use Rattle.proxy_core.specs.Treating.{IsStill, GoesOn, Treats, Chooses}
use Rattle.proxy_core.proofs.Keepings.{keeps_inside, heard_groups, chosen_rests, Chosen}
use Rattle.proxy_core.proofs.Partings.{goes_none, goes_one, goes_then, fails_then, fails_here, settles, goes_same, hear_does, hear_halts}

-- ---- to hear

-- as many frames were made as the records have
ring_records : (s : Now) (k : Keeps s) → ring_made s.kept.ring ≡ length k.book.trail.made
ring_records s k =
    let ring = k.follows.ring in
    omega (arith, ring.within, ap length ring.frames_are, length-map (drop s.kept.ring.acknowledged k.book.trail.made) spelling, length-drop s.kept.ring.acknowledged k.book.trail.made)

pub record IsHearing (start s : Now) : Type 0 where
  pub running : s.fault ≡ None
  pub keeps : Keeps s
  pub groups : group s ≡ Rest
  pub goes : Goes start s
  pub made : ring_made s.kept.ring ≡ ring_made start.kept.ring

pub hearing_on : (start s t : Now) → IsHearing start s → Did (Ok true) (hear s) s t → IsHearing start t
hearing_on start s t h d =
    let frame : FrameDue s d.0 = frame_due s d.0 d.1 in
    let due : next s ≡ Do (Heard frame.frame) = hear_does s (Heard frame.frame) (d.1 ∙ ap (λ (e : Event). Do e) frame.is) in
    let is : t ≡ step (Heard frame.frame) s = d.2 ∙ ap (λ (e : Event). step e s) frame.is in
    let keeps : Keeps (step (Heard frame.frame) s) = keeps_inside (Heard frame.frame) s h.keeps due in
    let after : IsHearing start (step (Heard frame.frame) s) = record {
      running = (same_step (Heard frame.frame) s).fault ∙ h.running;
      keeps = keeps;
      groups = heard_groups s frame.frame h.groups;
      goes = goes_then start s (step (Heard frame.frame) s) h.goes (goes_one s (Heard frame.frame) due);
      made = ring_records (step (Heard frame.frame) s) keeps ∙ sym (ring_records s h.keeps) ∙ h.made;
    } in
    subst (λ (u : Now). IsHearing start u) (sym is) after

pub hearing_fails : (fault : ProxyFault) (start s t : Now) → IsHearing start s → Did (Err fault) (hear s) s t → Fails fault start t
hearing_fails fault start s t h d = fails_here fault start s t h.goes (halts d.0) d.1
  where
    halts : (hear s ≡ Halt fault) ⊎ (fault ≡ Memory) → (next s ≡ Halt fault) ⊎ (fault ≡ Memory)
    halts (inl e) = inl (hear_halts s fault e)
    halts (inr e) = inr e

-- ---- to treat

pub record IsTreating (start s : Now) : Type 0 where
  pub running : s.fault ≡ None
  pub went : GoesOn start s

pub treating_first : (s : Now) → s.fault ≡ None → Keeps s → IsStill s → IsTreating s s
treating_first s f k still = record { running = f; went = record { goes = goes_none s; keeps = k; still = still; acknowledged = refl } }

pub went_then : (s t u : Now) → GoesOn s t → GoesOn t u → GoesOn s u
went_then s t u g h = record { goes = goes_then s t u g.goes h.goes; keeps = h.keeps; still = h.still; acknowledged = h.acknowledged ∙ g.acknowledged }

pub treating_on : (start s t : Now) → IsTreating start s → Treats (Ok true) s t → t.fault ≡ None → IsTreating start t
treating_on start s t h d f = record { running = f; went = went_then start s t h.went d.0 }

pub treating_fails : (fault : ProxyFault) (start s t : Now) → IsTreating start s → Treats (Err fault) s t → Fails fault start t
treating_fails fault start s t h d = fails_then fault start s t h.went.goes d

-- ---- all of them

pub few_known : (s t : Now) → HearsAll s t → ring_made s.kept.ring < MOST_MADE → t.kept.ring.acknowledged < MOST_MADE
few_known s t h few = omega (arith, h.made, few)

pub still_of : (s t : Now) → HearsAll s t → IsStill t
still_of s t h = record { hears = h.hears; groups = h.groups }

-- a row that leads to rest
pub record Done (s t : Now) : Type 0 where
  pub row : Settles s t
  pub rests : AtRest t
  pub goes_on : t.fault ≡ s.fault

pub all_done : (went : Bool) (s heard treated ended t : Now) → HearsAll s heard → GoesOn heard treated → GoesOn treated ended → treat ended ≡ Rest → end ended ≡ Rest → Chooses went ended t → Done s t
all_done went s heard treated ended t h g k c d chooses =
    let chosen : Chosen ended t = chosen_rests went ended t k.keeps k.still.hears k.still.groups c d chooses in
    let goes : Goes s t = goes_then s heard t h.goes (goes_then heard treated t g.goes (goes_then treated ended t k.goes chosen.goes)) in
    record { row = settles s t goes chosen.rests.rests; rests = chosen.rests; goes_on = (goes_same s t goes).fault }
