-- Which event is due, read off from what is due next: one inversion for each phase, and what each phase reads.
use Rattle.std.proofs.Common.{◌≡◌, ℕ, List, Option, Some, None, Result, Ok, Err, Bool, true, false, ◌&&◌, not, refl, ap, ◌∙◌, inl, inr, ◌⊎◌}
use Rattle.std.specs.Option.{MatchOption}
use Rattle.std.specs.Prelude.{is_none}
use Rattle.transfer_frames.specs.declared.cause.FrameCause.{FrameCause}
use Rattle.transfer_frames.specs.declared.frame.Frame.{Frame}
use Rattle.transfer_frames.specs.Front.{front}
use Rattle.transfer_frames.specs.Grammar.{role}
use Rattle.half_model.specs.declared.causes.HalfFault.{HalfFault}
use Rattle.half_model.specs.Content.{Taking, content_fault}
use Rattle.half_model.specs.Group.{Owed}
use Rattle.half_model.specs.Tables.{Tables}
use Rattle.half_model.specs.Turn as turns
use Rattle.half_model.specs.Turn.{Turn, turn, Treated, MadeGroup, group_due, waits_in}
use Rattle.pair_model.specs.LinkFaults.{Judge, link_fault}
use Rattle.pair_model.specs.Refusals.{first_cause}
use Rattle.pair_model.specs.RingState.{RingState, ring_at}
use Rattle.pair_model.specs.Steps.{Here, Pick, Nothing, Tell, Send, picks}
use Rattle.side_model.specs.declared.fault.ProxyFault.{ProxyFault}
use Rattle.side_model.specs.declared.fault.ProxyFault.TheVariants as faults
use Rattle.side_model.specs.Due.{judge_in, hear_on, hear_front, hear_frame, hear, group_found, group, is_free, fault_of, treat_turn, treat_on, treat, end_on, end, choose_pick, choose_on, choose, work, next}
use Rattle.side_model.specs.Events.{Event, Heard, Took, Grouped, Ended, Chose, Next, Do, Halt, Rest, or_next}
use Rattle.side_model.specs.State.{Now, Closing, Open, Asked, Made}

-- ---- one after another

pub or_next_do : (a b : Next) (event : Event) → or_next a b ≡ Do event → (a ≡ Do event) ⊎ ((a ≡ Rest) × (b ≡ Do event))
or_next_do (Do e) b event h = inl h
or_next_do (Halt f) b event h = absurd cc
or_next_do Rest b event h = inr (refl, h)

pub or_next_halt : (a b : Next) (fault : ProxyFault) → or_next a b ≡ Halt fault → (a ≡ Halt fault) ⊎ ((a ≡ Rest) × (b ≡ Halt fault))
or_next_halt (Do e) b fault h = absurd cc
or_next_halt (Halt f) b fault h = inl h
or_next_halt Rest b fault h = inr (refl, h)

pub or_next_rest : (a b : Next) → or_next a b ≡ Rest → (a ≡ Rest) × (b ≡ Rest)
or_next_rest (Do e) b h = absurd cc
or_next_rest (Halt f) b h = absurd cc
or_next_rest Rest b h = (refl, h)

pub rest_or_next : (a b : Next) → a ≡ Rest → b ≡ Rest → or_next a b ≡ Rest
rest_or_next (Do e) b h k = absurd cc
rest_or_next (Halt f) b h k = absurd cc
rest_or_next Rest b h k = k

-- ---- the phases

-- an event is due in one of the phases, and nothing in those before it
pub data DueIn (s : Now) (event : Event) : Type 0 where
  InHear : hear s ≡ Do event → DueIn s event
  InGroup : hear s ≡ Rest → group s ≡ Do event → DueIn s event
  InTreat : hear s ≡ Rest → group s ≡ Rest → treat s ≡ Do event → DueIn s event
  InEnd : hear s ≡ Rest → group s ≡ Rest → treat s ≡ Rest → end s ≡ Do event → DueIn s event
  InChoose : hear s ≡ Rest → group s ≡ Rest → treat s ≡ Rest → end s ≡ Rest → choose s ≡ Do event → DueIn s event

pub due_in : (s : Now) (event : Event) → next s ≡ Do event → DueIn s event
unfolding next work
due_in s event h = by_hear (or_next_do (hear s) (work s) event h)
  where
    by_end : hear s ≡ Rest → group s ≡ Rest → treat s ≡ Rest → (end s ≡ Do event) ⊎ ((end s ≡ Rest) × (choose s ≡ Do event)) → DueIn s event
    by_end a b c (inl e) = InEnd a b c e
    by_end a b c (inr e) = InChoose a b c e.0 e.1

    by_treat : hear s ≡ Rest → group s ≡ Rest → (treat s ≡ Do event) ⊎ ((treat s ≡ Rest) × (or_next (end s) (choose s) ≡ Do event)) → DueIn s event
    by_treat a b (inl e) = InTreat a b e
    by_treat a b (inr e) = by_end a b e.0 (or_next_do (end s) (choose s) event e.1)

    by_group : hear s ≡ Rest → (group s ≡ Do event) ⊎ ((group s ≡ Rest) × (or_next (treat s) (or_next (end s) (choose s)) ≡ Do event)) → DueIn s event
    by_group a (inl e) = InGroup a e
    by_group a (inr e) = by_treat a e.0 (or_next_do (treat s) (or_next (end s) (choose s)) event e.1)

    by_hear : (hear s ≡ Do event) ⊎ ((hear s ≡ Rest) × (work s ≡ Do event)) → DueIn s event
    by_hear (inl e) = InHear e
    by_hear (inr e) = by_group e.0 (or_next_do (group s) (or_next (treat s) (or_next (end s) (choose s))) event e.1)

-- nothing is due in any of them
pub record AllRest (s : Now) : Type 0 where
  pub hears : hear s ≡ Rest
  pub groups : group s ≡ Rest
  pub treats : treat s ≡ Rest
  pub ends : end s ≡ Rest
  pub chooses : choose s ≡ Rest

pub all_rest : (s : Now) → next s ≡ Rest → AllRest s
unfolding next work
all_rest s h =
    let a : (hear s ≡ Rest) × (work s ≡ Rest) = or_next_rest (hear s) (work s) h in
    let b : (group s ≡ Rest) × (or_next (treat s) (or_next (end s) (choose s)) ≡ Rest) = or_next_rest (group s) (or_next (treat s) (or_next (end s) (choose s))) a.1 in
    let c : (treat s ≡ Rest) × (or_next (end s) (choose s) ≡ Rest) = or_next_rest (treat s) (or_next (end s) (choose s)) b.1 in
    let d : (end s ≡ Rest) × (choose s ≡ Rest) = or_next_rest (end s) (choose s) c.1 in
    record { hears = a.0; groups = b.0; treats = c.0; ends = d.0; chooses = d.1 }

pub rests : (s : Now) → AllRest s → next s ≡ Rest
unfolding next work
rests s h =
    rest_or_next (hear s) (work s) h.hears (rest_or_next (group s) (or_next (treat s) (or_next (end s) (choose s))) h.groups
    (rest_or_next (treat s) (or_next (end s) (choose s)) h.treats (rest_or_next (end s) (choose s) h.ends h.chooses)))

-- ---- to hear

-- a whole frame stands at the front of the bytes read, and is not refused
pub record FrameDue (s : Now) (event : Event) : Type 0 where
  pub here : Here
  pub is_here : s.live.here ≡ Some here
  pub frame : Frame
  pub stands : front here.unread ≡ Ok (Some frame)
  pub passes : first_cause (link_fault (judge_in s.token s.kept.ring s.kept.accepted s.kept.heard_close here) here.answer (role frame)) (content_fault s.live.tables s.live.taking frame) ≡ None
  pub is : event ≡ Heard frame

pub frame_due : (s : Now) (event : Event) → hear s ≡ Do event → FrameDue s event
unfolding hear
frame_due s event h = by_here s.live.here refl h
  where
    by_cause : (here : Here) → s.live.here ≡ Some here → (frame : Frame) → front here.unread ≡ Ok (Some frame) → (cause : Option FrameCause)
        → first_cause (link_fault (judge_in s.token s.kept.ring s.kept.accepted s.kept.heard_close here) here.answer (role frame)) (content_fault s.live.tables s.live.taking frame) ≡ cause
        → hear_frame here frame cause ≡ Do event → FrameDue s event
    by_cause here e frame k None c d = record { here = here; is_here = e; frame = frame; stands = k; passes = c; is = cc }
    by_cause here e frame k (Some cause) c d = absurd cc

    by_front : (here : Here) → s.live.here ≡ Some here → (read : Result (Option Frame) FrameCause) → front here.unread ≡ read
        → hear_front (judge_in s.token s.kept.ring s.kept.accepted s.kept.heard_close here) s.live.tables s.live.taking here read ≡ Do event → FrameDue s event
    by_front here e (Ok None) k d = absurd cc
    by_front here e (Ok (Some frame)) k d =
        by_cause here e frame k (first_cause (link_fault (judge_in s.token s.kept.ring s.kept.accepted s.kept.heard_close here) here.answer (role frame)) (content_fault s.live.tables s.live.taking frame)) refl d
    by_front here e (Err cause) k d = absurd cc

    by_here : (here : Option Here) → s.live.here ≡ here → hear_on s.token s.kept.ring s.kept.accepted s.kept.heard_close s.live.tables s.live.taking here ≡ Do event → FrameDue s event
    by_here None e d = absurd cc
    by_here (Some here) e d = by_front here e (front here.unread) refl d

-- what stands there is refused
pub record FrameRefused (s : Now) (fault : ProxyFault) : Type 0 where
  pub here : Here
  pub is_here : s.live.here ≡ Some here
  pub cause : FrameCause
  pub because : (front here.unread ≡ Err cause) ⊎ ((frame : Frame) × (front here.unread ≡ Ok (Some frame))
      × (first_cause (link_fault (judge_in s.token s.kept.ring s.kept.accepted s.kept.heard_close here) here.answer (role frame)) (content_fault s.live.tables s.live.taking frame) ≡ Some cause))
  pub is : fault ≡ faults.Frame here.connection here.place cause

pub frame_refused : (s : Now) (fault : ProxyFault) → hear s ≡ Halt fault → FrameRefused s fault
unfolding hear
frame_refused s fault h = by_here s.live.here refl h
  where
    by_cause : (here : Here) → s.live.here ≡ Some here → (frame : Frame) → front here.unread ≡ Ok (Some frame) → (cause : Option FrameCause)
        → first_cause (link_fault (judge_in s.token s.kept.ring s.kept.accepted s.kept.heard_close here) here.answer (role frame)) (content_fault s.live.tables s.live.taking frame) ≡ cause
        → hear_frame here frame cause ≡ Halt fault → FrameRefused s fault
    by_cause here e frame k None c d = absurd cc
    by_cause here e frame k (Some cause) c d = record { here = here; is_here = e; cause = cause; because = inr (frame, k, c); is = cc }

    by_front : (here : Here) → s.live.here ≡ Some here → (read : Result (Option Frame) FrameCause) → front here.unread ≡ read
        → hear_front (judge_in s.token s.kept.ring s.kept.accepted s.kept.heard_close here) s.live.tables s.live.taking here read ≡ Halt fault → FrameRefused s fault
    by_front here e (Ok None) k d = absurd cc
    by_front here e (Ok (Some frame)) k d =
        by_cause here e frame k (first_cause (link_fault (judge_in s.token s.kept.ring s.kept.accepted s.kept.heard_close here) here.answer (role frame)) (content_fault s.live.tables s.live.taking frame)) refl d
    by_front here e (Err cause) k d = record { here = here; is_here = e; cause = cause; because = inl k; is = cc }

    by_here : (here : Option Here) → s.live.here ≡ here → hear_on s.token s.kept.ring s.kept.accepted s.kept.heard_close s.live.tables s.live.taking here ≡ Halt fault → FrameRefused s fault
    by_here None e d = absurd cc
    by_here (Some here) e d = by_front here e (front here.unread) refl d

-- at most a part of a frame stands there
abbrev pub IsQuiet : Option Here → Type 0
IsQuiet here = MatchOption here (Unit {0}) (λ h. front h.unread ≡ Ok None)

pub quiet_hears : (token : List ℕ) (ring : RingState) (accepted : ℕ) (closed : Bool) (tables : Tables) (taking : Taking) (here : Option Here) → IsQuiet here → hear_on token ring accepted closed tables taking here ≡ Rest
quiet_hears token ring accepted closed tables taking None q = refl
quiet_hears token ring accepted closed tables taking (Some here) q = ap (hear_front (judge_in token ring accepted closed here) tables taking here) q

pub is_quiet : (s : Now) → hear s ≡ Rest → IsQuiet s.live.here
unfolding hear
is_quiet s h = by_here s.live.here h
  where
    by_cause : (here : Here) (frame : Frame) (cause : Option FrameCause) → hear_frame here frame cause ≡ Rest → ⊥
    by_cause here frame None d = cc
    by_cause here frame (Some cause) d = cc

    by_front : (here : Here) (judge : Judge) (read : Result (Option Frame) FrameCause) → front here.unread ≡ read → hear_front judge s.live.tables s.live.taking here read ≡ Rest → front here.unread ≡ Ok None
    by_front here judge (Ok None) k d = k
    by_front here judge (Ok (Some frame)) k d = absurd (by_cause here frame (first_cause (link_fault judge here.answer (role frame)) (content_fault s.live.tables s.live.taking frame)) d)
    by_front here judge (Err cause) k d = absurd cc

    by_here : (here : Option Here) → hear_on s.token s.kept.ring s.kept.accepted s.kept.heard_close s.live.tables s.live.taking here ≡ Rest → IsQuiet here
    by_here None d = tt
    by_here (Some here) d = by_front here (judge_in s.token s.kept.ring s.kept.accepted s.kept.heard_close here) (front here.unread) refl d

pub hears_none : (s : Now) → IsQuiet s.live.here → hear s ≡ Rest
unfolding hear
hears_none s q = quiet_hears s.token s.kept.ring s.kept.accepted s.kept.heard_close s.live.tables s.live.taking s.live.here q

-- ---- to make a group

pub record GroupDue (s : Now) (event : Event) : Type 0 where
  pub made : MadeGroup
  pub due : group_due s.live.sending.owes s.kept.jobs ≡ Some made
  pub is : event ≡ Grouped

pub group_is_due : (s : Now) (event : Event) → group s ≡ Do event → GroupDue s event
unfolding group
group_is_due s event h = go (group_due s.live.sending.owes s.kept.jobs) refl h
  where
    go : (found : Option MadeGroup) → group_due s.live.sending.owes s.kept.jobs ≡ found → group_found found ≡ Do event → GroupDue s event
    go None e d = absurd cc
    go (Some made) e d = record { made = made; due = e; is = cc }

pub no_group_due : (s : Now) → group s ≡ Rest → group_due s.live.sending.owes s.kept.jobs ≡ None
unfolding group
no_group_due s h = go (group_due s.live.sending.owes s.kept.jobs) refl h
  where
    go : (found : Option MadeGroup) → group_due s.live.sending.owes s.kept.jobs ≡ found → group_found found ≡ Rest → group_due s.live.sending.owes s.kept.jobs ≡ None
    go None e d = e
    go (Some made) e d = absurd cc

pub groups_none : (s : Now) → group_due s.live.sending.owes s.kept.jobs ≡ None → group s ≡ Rest
unfolding group
groups_none s e = ap group_found e

pub no_halt_in_group : (s : Now) (fault : ProxyFault) → group s ≡ Halt fault → ⊥
unfolding group
no_halt_in_group s fault h = go (group_due s.live.sending.owes s.kept.jobs) h
  where
    go : (found : Option MadeGroup) → group_found found ≡ Halt fault → ⊥
    go None d = cc
    go (Some made) d = cc

-- ---- to treat

pub record TurnDue (s : Now) (event : Event) : Type 0 where
  pub free : is_free s.live.sending.owes s.kept.ring ≡ true
  pub it : Treated
  pub takes : turn s.live.tables s.live.sending ≡ turns.Takes it
  pub is : event ≡ Took

pub turn_due : (s : Now) (event : Event) → treat s ≡ Do event → TurnDue s event
unfolding treat
turn_due s event h = by_free (is_free s.live.sending.owes s.kept.ring) refl h
  where
    by_turn : is_free s.live.sending.owes s.kept.ring ≡ true → (it : Turn) → turn s.live.tables s.live.sending ≡ it → treat_turn it ≡ Do event → TurnDue s event
    by_turn f turns.Idle e d = absurd cc
    by_turn f (turns.Refuses fault) e d = absurd cc
    by_turn f (turns.Takes it) e d = record { free = f; it = it; takes = e; is = cc }

    by_free : (free : Bool) → is_free s.live.sending.owes s.kept.ring ≡ free → treat_on free (turn s.live.tables s.live.sending) ≡ Do event → TurnDue s event
    by_free false f d = absurd cc
    by_free true f d = by_turn f (turn s.live.tables s.live.sending) refl d

pub record TurnRefused (s : Now) (fault : ProxyFault) : Type 0 where
  pub cause : HalfFault
  pub refuses : turn s.live.tables s.live.sending ≡ turns.Refuses cause
  pub is : fault ≡ fault_of cause

pub turn_refused : (s : Now) (fault : ProxyFault) → treat s ≡ Halt fault → TurnRefused s fault
unfolding treat
turn_refused s fault h = by_free (is_free s.live.sending.owes s.kept.ring) h
  where
    by_turn : (it : Turn) → turn s.live.tables s.live.sending ≡ it → treat_turn it ≡ Halt fault → TurnRefused s fault
    by_turn turns.Idle e d = absurd cc
    by_turn (turns.Refuses cause) e d = record { cause = cause; refuses = e; is = cc }
    by_turn (turns.Takes it) e d = absurd cc

    by_free : (free : Bool) → treat_on free (turn s.live.tables s.live.sending) ≡ Halt fault → TurnRefused s fault
    by_free false d = absurd cc
    by_free true d = by_turn (turn s.live.tables s.live.sending) refl d

-- where nothing is to be treated, there is no room, or nothing waits
pub turn_idle : (s : Now) → treat s ≡ Rest → (is_free s.live.sending.owes s.kept.ring ≡ false) ⊎ (turn s.live.tables s.live.sending ≡ turns.Idle)
unfolding treat
turn_idle s h = by_free (is_free s.live.sending.owes s.kept.ring) refl h
  where
    by_turn : (it : Turn) → turn s.live.tables s.live.sending ≡ it → treat_turn it ≡ Rest → turn s.live.tables s.live.sending ≡ turns.Idle
    by_turn turns.Idle e d = e
    by_turn (turns.Refuses fault) e d = absurd cc
    by_turn (turns.Takes it) e d = absurd cc

    by_free : (free : Bool) → is_free s.live.sending.owes s.kept.ring ≡ free → treat_on free (turn s.live.tables s.live.sending) ≡ Rest → (is_free s.live.sending.owes s.kept.ring ≡ false) ⊎ (turn s.live.tables s.live.sending ≡ turns.Idle)
    by_free false f d = inl f
    by_free true f d = inr (by_turn (turn s.live.tables s.live.sending) refl d)

pub treats_none : (s : Now) → (is_free s.live.sending.owes s.kept.ring ≡ false) ⊎ (turn s.live.tables s.live.sending ≡ turns.Idle) → treat s ≡ Rest
unfolding treat
treats_none s (inl f) = ap (λ free. treat_on free (turn s.live.tables s.live.sending)) f
treats_none s (inr e) = ap (λ it. treat_on (is_free s.live.sending.owes s.kept.ring) it) e ∙ either (is_free s.live.sending.owes s.kept.ring)
  where
    either : (b : Bool) → treat_on b turns.Idle ≡ Rest
    either true = refl
    either false = refl

-- ---- to end

-- nothing is owed, and nothing waits
abbrev pub is_still : Option Owed → Bool → Bool
is_still owes waiting = is_none owes && not waiting

pub record EndDue (s : Now) (event : Event) : Type 0 where
  pub reason : ℕ
  pub asked : s.kept.closing ≡ Asked reason
  pub owes_none : s.live.sending.owes ≡ None
  pub waits_none : waits_in s.live.sending ≡ false
  pub is : event ≡ Ended

still_parts : (owes : Option Owed) (waiting : Bool) → is_still owes waiting ≡ true → (owes ≡ None) × (waiting ≡ false)
still_parts None true e = absurd cc
still_parts None false e = (refl, refl)
still_parts (Some owed) waiting e = absurd cc

pub end_is_due : (s : Now) (event : Event) → end s ≡ Do event → EndDue s event
unfolding end
end_is_due s event h = by_closing s.kept.closing refl h
  where
    by_still : (reason : ℕ) → s.kept.closing ≡ Asked reason → (still : Bool) → is_still s.live.sending.owes (waits_in s.live.sending) ≡ still → end_on (Asked reason) still ≡ Do event → EndDue s event
    by_still reason e true k d =
        let p : (s.live.sending.owes ≡ None) × (waits_in s.live.sending ≡ false) = still_parts s.live.sending.owes (waits_in s.live.sending) k in
        record { reason = reason; asked = e; owes_none = p.0; waits_none = p.1; is = cc }
    by_still reason e false k d = absurd cc

    by_closing : (closing : Closing) → s.kept.closing ≡ closing → end_on closing (is_still s.live.sending.owes (waits_in s.live.sending)) ≡ Do event → EndDue s event
    by_closing Open e d = absurd cc
    by_closing (Asked reason) e d = by_still reason e (is_still s.live.sending.owes (waits_in s.live.sending)) refl d
    by_closing Made e d = absurd cc

pub no_halt_in_end : (s : Now) (fault : ProxyFault) → end s ≡ Halt fault → ⊥
unfolding end
no_halt_in_end s fault h = go s.kept.closing (is_still s.live.sending.owes (waits_in s.live.sending)) h
  where
    go : (closing : Closing) (still : Bool) → end_on closing still ≡ Halt fault → ⊥
    go Open still d = cc
    go (Asked reason) true d = cc
    go (Asked reason) false d = cc
    go Made still d = cc

-- ---- to choose

pub record ChoiceDue (s : Now) (event : Event) : Type 0 where
  pub here : Here
  pub is_here : s.live.here ≡ Some here
  pub is : event ≡ Chose

pub choice_due : (s : Now) (event : Event) → choose s ≡ Do event → ChoiceDue s event
unfolding choose
choice_due s event h = by_here s.live.here refl h
  where
    by_pick : (pick : Pick) → choose_pick pick ≡ Do event → event ≡ Chose
    by_pick Nothing d = cc
    by_pick (Tell n) d = cc
    by_pick (Send bytes) d = cc

    by_here : (here : Option Here) → s.live.here ≡ here → choose_on s.kept.accepted s.kept.ring here ≡ Do event → ChoiceDue s event
    by_here None e d = absurd cc
    by_here (Some here) e d = record { here = here; is_here = e; is = by_pick (picks s.kept.accepted (ring_at here.next s.kept.ring) here) d }

pub no_halt_in_choose : (s : Now) (fault : ProxyFault) → choose s ≡ Halt fault → ⊥
unfolding choose
no_halt_in_choose s fault h = by_here s.live.here h
  where
    by_pick : (pick : Pick) → choose_pick pick ≡ Halt fault → ⊥
    by_pick Nothing d = cc
    by_pick (Tell n) d = cc
    by_pick (Send bytes) d = cc

    by_here : (here : Option Here) → choose_on s.kept.accepted s.kept.ring here ≡ Halt fault → ⊥
    by_here None d = cc
    by_here (Some here) d = by_pick (picks s.kept.accepted (ring_at here.next s.kept.ring) here) d

-- nothing is picked
pub picks_none : (s : Now) → choose s ≡ Rest → MatchOption s.live.here (Unit {0}) (λ here. picks s.kept.accepted (ring_at here.next s.kept.ring) here ≡ Nothing)
unfolding choose
picks_none s h = by_here s.live.here h
  where
    by_pick : (pick : Pick) → choose_pick pick ≡ Rest → pick ≡ Nothing
    by_pick Nothing d = refl
    by_pick (Tell n) d = absurd cc
    by_pick (Send bytes) d = absurd cc

    by_here : (here : Option Here) → choose_on s.kept.accepted s.kept.ring here ≡ Rest → MatchOption here (Unit {0}) (λ here. picks s.kept.accepted (ring_at here.next s.kept.ring) here ≡ Nothing)
    by_here None d = tt
    by_here (Some here) d = by_pick (picks s.kept.accepted (ring_at here.next s.kept.ring) here) d

pub chooses_none : (s : Now) → MatchOption s.live.here (Unit {0}) (λ here. picks s.kept.accepted (ring_at here.next s.kept.ring) here ≡ Nothing) → choose s ≡ Rest
unfolding choose
chooses_none s h = by_here s.live.here h
  where
    by_here : (here : Option Here) → MatchOption here (Unit {0}) (λ here. picks s.kept.accepted (ring_at here.next s.kept.ring) here ≡ Nothing) → choose_on s.kept.accepted s.kept.ring here ≡ Rest
    by_here None d = refl
    by_here (Some here) d = ap choose_pick d
