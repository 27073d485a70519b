-- What an event leaves as it was for the phases, and that nothing is due behind a choice.
use Rattle.std.proofs.Common.{◌≡◌, ℕ, ◌-◌, suc, zero, List, [], ◌∷◌, Option, Some, None, refl, sym, ap, subst, ◌∙◌, inl, inr}
use Rattle.std.specs.List.{AllByRecursion}
use Rattle.std.specs.Option.{MatchOption}
use Rattle.std.specs.Prelude.{slice_get, option_map}
use Rattle.transfer_frames.specs.declared.frame.Frame.TheVariants.{Ack}
use Rattle.transfer_frames.specs.Front.{front}
use Rattle.half_model.specs.Turn as turns
use Rattle.half_model.specs.Turn.{Turn, turn, MadeGroup, group_due}
use Rattle.pair_model.specs.RingState.{RingState, ring_at}
use Rattle.pair_model.specs.Steps.{Here, Pick, Nothing, Tell, Send, picks, picked, chosen, pick_after}
use Rattle.pair_model.proofs.Rows.{spelling_long}
use Rattle.side_model.specs.Due.{hear, group, treat, end, next}
use Rattle.side_model.specs.Events.{Event, Took, Grouped, Ended, Chose, Rest}
use Rattle.side_model.specs.RowLaws.{IsWork}
use Rattle.side_model.specs.Sound.{IsKept, Sound}
use Rattle.side_model.specs.State.{Now, Closing, Open, Asked, Made}
use Rattle.side_model.specs.Steps.{step, took, grouped, ended}
use Rattle.side_model.proofs.Dues.{IsQuiet, rests, hears_none, chooses_none}
use Rattle.side_model.proofs.Picking.{SendsNext, sends_next, behind_some}

-- ---- the connection that is up

pub here_took : (it : Turn) (s : Now) → (took it s).live.here ≡ s.live.here
here_took turns.Idle s = refl
here_took (turns.Refuses fault) s = refl
here_took (turns.Takes it) s = refl

pub here_grouped : (found : Option MadeGroup) (s : Now) → (grouped found s).live.here ≡ s.live.here
here_grouped None s = refl
here_grouped (Some made) s = refl

pub here_ended : (closing : Closing) (s : Now) → (ended closing s).live.here ≡ s.live.here
here_ended Open s = refl
here_ended (Asked reason) s = refl
here_ended Made s = refl

here_step_took : (s : Now) → (step Took s).live.here ≡ s.live.here
unfolding step
here_step_took s = here_took (turn s.live.tables s.live.sending) s

here_step_grouped : (s : Now) → (step Grouped s).live.here ≡ s.live.here
unfolding step
here_step_grouped s = here_grouped (group_due s.live.sending.owes s.kept.jobs) s

here_step_ended : (s : Now) → (step Ended s).live.here ≡ s.live.here
unfolding step
here_step_ended s = here_ended s.kept.closing s

pub here_worked : (event : Event) (s : Now) → IsWork event → (step event s).live.here ≡ s.live.here
here_worked event s (inl e) = ap (λ (v : Event). (step v s).live.here) e ∙ here_step_took s
here_worked event s (inr (inl e)) = ap (λ (v : Event). (step v s).live.here) e ∙ here_step_grouped s
here_worked event s (inr (inr e)) = ap (λ (v : Event). (step v s).live.here) e ∙ here_step_ended s

pub picked_unread : (pick : Pick) (here : Here) → (picked pick here).unread ≡ here.unread
picked_unread Nothing here = refl
picked_unread (Tell n) here = refl
picked_unread (Send bytes) here = refl

quiet_chosen : (accepted : ℕ) (ring : RingState) (here : Option Here) → IsQuiet here → IsQuiet (option_map (λ h. chosen accepted (ring_at h.next ring) h) here)
quiet_chosen accepted ring None q = tt
quiet_chosen accepted ring (Some here) q = ap front (picked_unread (picks accepted (ring_at here.next ring) here) here) ∙ q

pub quiet_worked : (event : Event) (s : Now) → IsWork event → IsQuiet s.live.here → IsQuiet (step event s).live.here
quiet_worked event s w q = subst (λ (here : Option Here). IsQuiet here) (sym (here_worked event s w)) q

pub quiet_chose : (s : Now) → IsQuiet s.live.here → IsQuiet (step Chose s).live.here
unfolding step
quiet_chose s q = quiet_chosen s.kept.accepted s.kept.ring s.live.here q

-- ---- behind a choice

-- a frame in the ring
pub kept_at : (frames : List (List ℕ)) (i : ℕ) (bytes : List ℕ) → AllByRecursion IsKept frames → slice_get frames i ≡ Some bytes → IsKept bytes
kept_at [] i bytes h e = absurd cc
kept_at (x ∷ xs) zero bytes h e = let same : x ≡ bytes = cc in subst (λ (b : List ℕ). IsKept b) same h.0
kept_at (x ∷ xs) (suc i) bytes h e = kept_at xs i bytes h.1 e

none_picked : (accepted : ℕ) (ring : RingState) (here : Here) → AllByRecursion IsKept ring.frames → (pick : Pick) → picks accepted (ring_at here.next ring) here ≡ pick
    → picks accepted (ring_at (picked pick here).next ring) (picked pick here) ≡ Nothing
none_picked accepted ring here frames Nothing e = e
none_picked accepted ring here frames (Tell n) e =
    behind_some (picked (Tell n) here).front (pick_after here.answer (picked (Tell n) here).told accepted (ring_at here.next ring)) (spelling_long (Ack n))
none_picked accepted ring here frames (Send bytes) e =
    let k : SendsNext accepted (ring_at here.next ring) here bytes = sends_next accepted (ring_at here.next ring) here bytes e in
    let is_kept : IsKept bytes = kept_at ring.frames (here.next - ring.acknowledged) bytes frames k.bytes_are in
    behind_some bytes (pick_after here.answer here.told accepted (ring_at (picked (Send bytes) here).next ring)) is_kept.0

none_chosen : (accepted : ℕ) (ring : RingState) (here : Option Here) → AllByRecursion IsKept ring.frames
    → MatchOption (option_map (λ h. chosen accepted (ring_at h.next ring) h) here) (Unit {0}) (λ h. picks accepted (ring_at h.next ring) h ≡ Nothing)
none_chosen accepted ring None frames = tt
none_chosen accepted ring (Some here) frames = none_picked accepted ring here frames (picks accepted (ring_at here.next ring) here) refl

-- where nothing else was due, nothing is due behind it
pub chose_rests : (s : Now) → Sound s → hear s ≡ Rest → group s ≡ Rest → treat s ≡ Rest → end s ≡ Rest → IsQuiet s.live.here → next (step Chose s) ≡ Rest
unfolding step group treat end
chose_rests s sound a b c d q = rests (step Chose s) (record {
  hears = hears_none (step Chose s) (quiet_chose s q);
  groups = b;
  treats = c;
  ends = d;
  chooses = chooses_none (step Chose s) (none_chosen s.kept.accepted s.kept.ring s.live.here sound.frames);
})
