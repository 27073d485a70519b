-- No call that did what it may not do is a call.
use Rattle.std.proofs.Common.{◌≡◌, ℕ, ◌<◌, List, [], ◌∷◌, Option, Some, None, Result, Ok, Err, Bool, true, false, ◌&&◌, nat_lt, refl, sym, ap, subst, ◌∙◌, arith, inl, inr, ◌⊎◌, if◌then◌else◌}
use Rattle.std.proofs.lemmas.Bool.{ltb-false}
use Rattle.std.specs.Prelude.{is_none, option_map}
use Rattle.transfer_frames.specs.declared.cause.FrameCause.{FrameCause}
use Rattle.transfer_frames.specs.declared.frame.Frame.{Frame}
use Rattle.transfer_frames.specs.Grammar.{role}
use Rattle.half_model.specs.Content.{content_fault}
use Rattle.half_model.specs.Group.{Owed}
use Rattle.pair_model.specs.LinkFaults.{link_fault}
use Rattle.pair_model.specs.Refusals.{first_cause}
use Rattle.pair_model.specs.RingState.{RingState, ring_at}
use Rattle.pair_model.specs.Steps.{Here, Pick, Tell, send_next, pick_after, pick_behind, picks, picked, chosen}
use Rattle.side_model.specs.declared.fault.ProxyFault.{ProxyFault}
use Rattle.side_model.specs.declared.fault.ProxyFault.TheVariants.{Memory}
use Rattle.side_model.specs.Calls.{Part, Row, Stops, Runs, CallsBarred, CallsAfter, Calls, barred}
use Rattle.side_model.specs.Due.{judge_in, hear, group, treat, end, choose, choose_on, choose_pick, next, is_free}
use Rattle.side_model.specs.Events.{Event, Heard, Took, Grouped, Ended, Chose, Do, Halt, Rest}
use Rattle.side_model.specs.Shows.{is_open}
use Rattle.side_model.specs.Sound.{Sound, GroupFits}
use Rattle.side_model.specs.State.{Now}
use Rattle.side_model.specs.Steps.{step}
use Rattle.side_model.specs.Trails.{TrailAfter, step_all}
use Rattle.side_model.specs.WrongCalls.{CameTo, StopsEarly, MissesFault, FailsEarly, FailsElse, ForgetsRing, FailedChanges, FailedGoesOn, ActsBehindChoice, HearsRefused, TakesOwing, EndsOwing, EndsBefore, ChoosesAgain, SendsBeforeAck, WantsOwing, RecordsTooMuch, CountsNoWeight}
use Rattle.side_model.proofs.Dues.{DueIn, InHear, InGroup, InTreat, InEnd, InChoose, due_in, FrameDue, frame_due, group_is_due, turn_due, EndDue, end_is_due, choice_due, is_quiet}
use Rattle.side_model.proofs.Parts.{part_at}
use Rattle.side_model.proofs.Quiets.{chose_rests}
use Rattle.side_model.proofs.RowProofs.{none_after}
use Rattle.side_model.proofs.SoundsInside.{sound_inside}
use Rattle.side_model.proofs.TrailKeeps.{calls_keep}
use Rattle.side_model.proofs.TrailParts.{same_weight}

-- ---- what it answered

pub no_fault : (answer : Result Unit ProxyFault) (fault : ProxyFault) → answer ≡ Ok tt → answer ≡ Err fault → ⊥
no_fault answer fault e d = cc

-- a call that is done leads to rest
pub at_rest : (event : Event) (events : List Event) (old new : Now) → Calls event (Ok tt) events old new → Row (step event old) events new Rest
at_rest event events old new h = by_fault old.fault h
  where
    by_bar : (bar : Option ProxyFault) → CallsBarred bar event (Ok tt) events old new → Row (step event old) events new Rest
    by_bar None r = r
    by_bar (Some fault) r = absurd (no_fault (Ok tt) fault refl r.answers)

    by_fault : (fault : Option ProxyFault) → CallsAfter fault event (Ok tt) events old new → Row (step event old) events new Rest
    by_fault None r = by_bar (barred event old) r
    by_fault (Some fault) r = absurd (no_fault (Ok tt) fault refl r.answers)

pub stops_early : StopsEarly
stops_early event other events old new h d = let never : Do other ≡ Rest = sym d ∙ (at_rest event events old new h).1 in cc

pub misses_fault : MissesFault
misses_fault event fault events old new h d = let never : Halt fault ≡ Rest = sym d ∙ (at_rest event events old new h).1 in cc

-- events that are due lead to one state
one_end : (s t u : Now) (events : List Event) → Part s events t → Part s events u → t ≡ u
one_end s t u [] p q = p ∙ sym q
one_end s t u (x ∷ xs) p q = one_end (step x s) t u xs p.1 q.1

-- a call that failed, where it came to
record FailedAt (fault : ProxyFault) (last new : Now) : Type 0 where
  due : next last ≡ Halt fault
  kept : new.kept ≡ last.kept

failed_at : {event : Event} {fault : ProxyFault} {events : List Event} {old last new : Now} → CameTo event fault events old last new → FailedAt fault last new
failed_at {event} {fault} {events} {old} {last} {new} c = by_fault old.fault c.goes_on c.calls
  where
    by_due : (stops : Stops (step event old) fault events new) → (next stops.last ≡ Halt fault) ⊎ (fault ≡ Memory) → FailedAt fault last new
    by_due stops (inl e) =
        let same : last ≡ stops.last = one_end (step event old) last stops.last events c.part stops.part in
        record { due = ap next same ∙ e; kept = stops.halted.kept ∙ ap (λ (s : Now). s.kept) (sym same) }
    by_due stops (inr e) = absurd (c.memory e)

    by_run : Runs event (Err fault) events old new → FailedAt fault last new
    by_run (inl stops) = by_due stops stops.due
    by_run (inr none) = absurd (c.memory none.memory)

    by_bar : (bar : Option ProxyFault) → bar ≡ None → CallsBarred bar event (Err fault) events old new → FailedAt fault last new
    by_bar None e r = by_run r
    by_bar (Some other) e r = absurd cc

    by_fault : (before : Option ProxyFault) → before ≡ None → CallsAfter before event (Err fault) events old new → FailedAt fault last new
    by_fault None e r = by_bar (barred event old) c.begins r
    by_fault (Some other) e r = absurd cc

pub fails_early : FailsEarly
fails_early event other fault events old last new c d = let never : Do other ≡ Halt fault = sym d ∙ (failed_at c).due in cc

pub fails_else : FailsElse
fails_else event fault due events old last new c d n =
    let same : Halt due ≡ Halt fault = sym d ∙ (failed_at c).due in
    n cc

pub forgets_ring : ForgetsRing
forgets_ring event fault events old last new c n = n (ap (λ kept. kept.ring) (failed_at c).kept)

pub failed_changes : FailedChanges
failed_changes event fault answer events old new e h n = by_fault old.fault e h
  where
    by_fault : (before : Option ProxyFault) → before ≡ Some fault → CallsAfter before event answer events old new → ⊥
    by_fault None d r = cc
    by_fault (Some other) d r = n r.same

pub failed_goes_on : FailedGoesOn
failed_goes_on event fault events old new e h = by_fault old.fault e h
  where
    by_fault : (before : Option ProxyFault) → before ≡ Some fault → CallsAfter before event (Ok tt) events old new → ⊥
    by_fault None d r = cc
    by_fault (Some other) d r = no_fault (Ok tt) other refl r.answers

-- ---- in which order it went

sound_part : (s t : Now) (events : List Event) → Sound s → ((u : Now) (some : List Event) → Part s some u → GroupFits u) → Part s events t → Sound t
sound_part s t [] h fits p = subst (λ (u : Now). Sound u) (sym p) h
sound_part s t (x ∷ xs) h fits p = sound_part (step x s) t xs (sound_inside x s h (fits s [] refl) p.0) (λ u some k. fits u (x ∷ some) (p.0, k)) p.1

-- a choice is due in its phase alone
record ChooseDue (s : Now) : Type 0 where
  hears : hear s ≡ Rest
  groups : group s ≡ Rest
  treats : treat s ≡ Rest
  ends : end s ≡ Rest
  chooses : choose s ≡ Do Chose

choose_due : (s : Now) → next s ≡ Do Chose → ChooseDue s
choose_due s d = by_phase (due_in s Chose d)
  where
    by_phase : DueIn s Chose → ChooseDue s
    by_phase (InHear e) = absurd (let never : Chose ≡ Heard (frame_due s Chose e).frame = (frame_due s Chose e).is in cc)
    by_phase (InGroup a e) = absurd (let never : Chose ≡ Grouped = (group_is_due s Chose e).is in cc)
    by_phase (InTreat a b e) = absurd (let never : Chose ≡ Took = (turn_due s Chose e).is in cc)
    by_phase (InEnd a b c e) = absurd (let never : Chose ≡ Ended = (end_is_due s Chose e).is in cc)
    by_phase (InChoose a b c f e) = record { hears = a; groups = b; treats = c; ends = f; chooses = e }

pub acts_behind_choice : ActsBehindChoice
acts_behind_choice s t before event after h fits p =
    let parts : Part s before (step_all before s) × Part (step_all before s) (Chose ∷ event ∷ after) t = part_at s t before (Chose ∷ event ∷ after) p in
    let at : Now = step_all before s in
    let sound : Sound (step_all before s) = sound_part s (step_all before s) before h fits parts.0 in
    let d : ChooseDue (step_all before s) = choose_due (step_all before s) parts.1.0 in
    let rest : next (step Chose (step_all before s)) ≡ Rest = chose_rests (step_all before s) sound d.hears d.groups d.treats d.ends (is_quiet (step_all before s) d.hears) in
    let none : event ∷ after ≡ [] = none_after (step Chose (step_all before s)) t (event ∷ after) rest parts.1.1 in
    cc

none_first : (one other : Option FrameCause) → first_cause one other ≡ None → other ≡ None
none_first None other e = e
none_first (Some cause) other e = absurd cc

pub hears_refused : HearsRefused
hears_refused s frame cause e d = by_phase (due_in s (Heard frame) d)
  where
    by_frame : (f : FrameDue s (Heard frame)) → ⊥
    by_frame f =
        let is : Heard frame ≡ Heard f.frame = f.is in
        let same : frame ≡ f.frame = cc in
        let fine : content_fault s.live.tables s.live.taking f.frame ≡ None =
        none_first (link_fault (judge_in s.token s.kept.ring s.kept.accepted s.kept.heard_close f.here) f.here.answer (role f.frame)) (content_fault s.live.tables s.live.taking f.frame) f.passes in
        let never : Some cause ≡ None = sym e ∙ ap (λ (x : Frame). content_fault s.live.tables s.live.taking x) same ∙ fine in
        cc

    by_phase : DueIn s (Heard frame) → ⊥
    by_phase (InHear k) = by_frame (frame_due s (Heard frame) k)
    by_phase (InGroup a k) = let never : Heard frame ≡ Grouped = (group_is_due s (Heard frame) k).is in cc
    by_phase (InTreat a b k) = let never : Heard frame ≡ Took = (turn_due s (Heard frame) k).is in cc
    by_phase (InEnd a b c k) = let never : Heard frame ≡ Ended = (end_is_due s (Heard frame) k).is in cc
    by_phase (InChoose a b c f k) = let never : Heard frame ≡ Chose = (choice_due s (Heard frame) k).is in cc

pub takes_owing : TakesOwing
takes_owing s owed e d = by_phase (due_in s Took d)
  where
    by_free : (owes : Option Owed) (ring : RingState) → owes ≡ Some owed → is_free owes ring ≡ true → ⊥
    by_free None ring k f = cc
    by_free (Some other) ring k f = cc

    by_phase : DueIn s Took → ⊥
    by_phase (InHear k) = let never : Took ≡ Heard (frame_due s Took k).frame = (frame_due s Took k).is in cc
    by_phase (InGroup a k) = let never : Took ≡ Grouped = (group_is_due s Took k).is in cc
    by_phase (InTreat a b k) = by_free s.live.sending.owes s.kept.ring e (turn_due s Took k).free
    by_phase (InEnd a b c k) = let never : Took ≡ Ended = (end_is_due s Took k).is in cc
    by_phase (InChoose a b c f k) = let never : Took ≡ Chose = (choice_due s Took k).is in cc

-- CLOSE is due in its phase alone
ends_due : (s : Now) → next s ≡ Do Ended → EndDue s Ended
ends_due s d = by_phase (due_in s Ended d)
  where
    by_phase : DueIn s Ended → EndDue s Ended
    by_phase (InHear k) = absurd (let never : Ended ≡ Heard (frame_due s Ended k).frame = (frame_due s Ended k).is in cc)
    by_phase (InGroup a k) = absurd (let never : Ended ≡ Grouped = (group_is_due s Ended k).is in cc)
    by_phase (InTreat a b k) = absurd (let never : Ended ≡ Took = (turn_due s Ended k).is in cc)
    by_phase (InEnd a b c k) = end_is_due s Ended k
    by_phase (InChoose a b c f k) = absurd (let never : Ended ≡ Chose = (choice_due s Ended k).is in cc)

pub ends_owing : EndsOwing
ends_owing s owed e d = let never : Some owed ≡ None = sym e ∙ (ends_due s d).owes_none in cc

pub ends_before : EndsBefore
ends_before s e d = let never : true ≡ false = sym e ∙ (ends_due s d).waits_none in cc

-- ---- the front

-- what is chosen on a connection where a choice is due
choice_of : (s : Now) (here : Here) → s.live.here ≡ Some here → next s ≡ Do Chose → choose_on s.kept.accepted s.kept.ring (Some here) ≡ Do Chose
unfolding choose
choice_of s here e d = ap (choose_on s.kept.accepted s.kept.ring) (sym e) ∙ (choose_due s d).chooses

pub chooses_again : ChoosesAgain
chooses_again s here e n d = by_front here.front refl (choice_of s here e d)
  where
    by_front : (front : List ℕ) → here.front ≡ front → choose_pick (pick_behind front (pick_after here.answer here.told s.kept.accepted (ring_at here.next s.kept.ring))) ≡ Do Chose → ⊥
    by_front [] k c = n k
    by_front (byte ∷ front) k c = cc

-- an ACK is picked where more was accepted than was told
tells_first : (accepted : ℕ) (next : Option (List ℕ)) (here : Here) → here.told < accepted → choose_pick (picks accepted next here) ≡ Do Chose → picks accepted next here ≡ Tell accepted
tells_first accepted next here l h = by_front here.front h
  where
    by_test : (b : Bool) → nat_lt here.told accepted ≡ b → (if b then Tell accepted else send_next next) ≡ Tell accepted
    by_test true t = refl
    by_test false t = absurd (omega (arith, ltb-false here.told accepted t, l))

    by_answer : (answer : Option ℕ) → choose_pick (pick_after answer here.told accepted next) ≡ Do Chose → pick_after answer here.told accepted next ≡ Tell accepted
    by_answer None c = absurd cc
    by_answer (Some p) c = by_test (nat_lt here.told accepted) refl

    by_front : (front : List ℕ) → choose_pick (pick_behind front (pick_after here.answer here.told accepted next)) ≡ Do Chose
        → pick_behind front (pick_after here.answer here.told accepted next) ≡ Tell accepted
    by_front [] c = by_answer here.answer c
    by_front (byte ∷ front) c = absurd cc

pub sends_before_ack : SendsBeforeAck
unfolding step
sends_before_ack s here e l d n =
    let tells : picks s.kept.accepted (ring_at here.next s.kept.ring) here ≡ Tell s.kept.accepted =
    tells_first s.kept.accepted (ring_at here.next s.kept.ring) here l (choice_of s here e d) in
    n (ap (λ (x : Option Here). option_map (λ h. chosen s.kept.accepted (ring_at h.next s.kept.ring) h) x) e ∙ ap (λ (p : Pick). Some (picked p here)) tells)

pub wants_owing : WantsOwing
wants_owing s owed e w = by_parts (is_none s.fault) (is_open s.kept.closing) s.live.sending.owes e w
  where
    by_parts : (one two : Bool) (owes : Option Owed) → owes ≡ Some owed → (one && (two && is_free owes s.kept.ring)) ≡ true → ⊥
    by_parts one two None k c = cc
    by_parts false two (Some other) k c = cc
    by_parts true false (Some other) k c = cc
    by_parts true true (Some other) k c = cc

-- ---- what it recorded

pub records_too_much : RecordsTooMuch
records_too_much event old new h w = by_fault old.fault h
  where
    by_fault : (fault : Option ProxyFault) → TrailAfter fault event (Ok tt) old new → ⊥
    by_fault None d = omega (arith, d.whole.fit.0, same_weight 0 old.book, w)
    by_fault (Some fault) d = no_fault (Ok tt) fault refl d.answers

pub counts_no_weight : CountsNoWeight
counts_no_weight event answer old new k a c w = omega (arith, (calls_keep event answer old new k a c).weighs, w)
