-- The numbers of a proxy are kept by each event that is due inside.
use Rattle.std.proofs.Common.{◌≡◌, ℕ, ◌+◌, ◌-◌, ◌<◌, ◌≤◌, cond, List, [], ◌∷◌, Option, Some, None, Bool, true, false, max, length, map, nat_lt, nat_le, not, ◌==◌, refl, sym, ap, subst, ◌∙◌, arith, length-append, length-drop}
use Rattle.std.proofs.lemmas.Bool.{ltb-false, leb-false}
use Rattle.std.proofs.lemmas.List.{length-map}
use Rattle.std.specs.List.{AllByRecursion}
use Rattle.std.specs.Option.{MatchOption}
use Rattle.std.specs.Prelude.{option_map}
use Rattle.std.proofs.lemmas.Option.{slice_get_within}
use Rattle.transfer_frames.specs.declared.frame.Frame.{Frame}
use Rattle.transfer_frames.specs.declared.frame.Frame.TheVariants as frames
use Rattle.transfer_frames.specs.declared.frame.FrameRole.{FrameRole}
use Rattle.transfer_frames.specs.declared.frame.FrameRole.TheVariants.{Counted, Tells, Greets}
use Rattle.std.specs.Str.{bytes_eq}
use Rattle.transfer_frames.specs.declared.cause.FrameCause.{FrameCause}
use Rattle.transfer_frames.specs.declared.cause.FrameCause.TheVariants.{AfterClose, CountSpent}
use Rattle.transfer_frames.specs.Faults.{first_of}
use Rattle.transfer_frames.specs.Grammar.{role, IsFrame, spelling}
use Rattle.half_model.specs.Group.{Owed}
use Rattle.half_model.specs.Turn as turns
use Rattle.half_model.specs.Turn.{Turn, turn, Sending, MadeGroup, group_due}
use Rattle.pair_model.specs.LinkFaults.{Judge, link_fault, MOST_FRAMES}
use Rattle.pair_model.specs.Refusals.{first_cause}
use Rattle.pair_model.specs.Rows.{is_counted, count_in, received_in, first_count}
use Rattle.pair_model.specs.RingState.{RingState, ring_made, ring_at, ring_ack}
use Rattle.pair_model.specs.StepLaws.{AreCounts}
use Rattle.pair_model.specs.Steps.{Here, Pick, Nothing, Tell, Send, picks, picked, next_after, chosen}
use Rattle.pair_model.proofs.Judging.{FourFail, four_fail, two_fail, first_count-none}
use Rattle.pair_model.proofs.Wholes.{acked_after, known_after}
use Rattle.side_model.specs.Due.{is_free, judge_in}
use Rattle.side_model.specs.Events.{Event, Took, Grouped, Ended, Chose}
use Rattle.side_model.specs.RowLaws.{SoundInside}
use Rattle.side_model.specs.Steps.{step, acked_by, here_heard, took, grouped, ended}
use Rattle.side_model.specs.Sound.{Sound, GroupFits, SoundHere, IsKept, reserved_group, reserved_close, MOST_GROUP}
use Rattle.side_model.specs.State.{Now, Closing, Open, Asked, Made}
use Rattle.half_model.specs.Content.{content_fault}
use Rattle.half_model.specs.Jobs.{Job}
use Rattle.side_model.proofs.Quiets.{kept_at}
use Rattle.side_model.proofs.Dues.{FrameDue, frame_due, GroupDue, group_is_due, TurnDue, turn_due, EndDue, end_is_due, ChoiceDue, choice_due, DueIn, InHear, InGroup, InTreat, InEnd, InChoose, due_in}
use Rattle.side_model.proofs.Picking.{TellsNext, tells_next, SendsNext, sends_next}
use Rattle.side_model.proofs.Sounds.{all_append, all_drop, all_kept, Room, room_of, pushed_here, here_changed, kept_close}

-- ---- a frame is heard

pub first_none : (a b : Option FrameCause) → first_cause a b ≡ None → (a ≡ None) × (b ≡ None)
first_none None b e = (refl, e)
first_none (Some cause) b e = absurd cc

-- a ring of which more is acknowledged
record Acked (ring after : RingState) (known : ℕ) : Type 0 where
  made : ring_made after ≡ ring_made ring
  acknowledged : after.acknowledged ≡ known
  shorter : length after.frames ≤ length ring.frames
  kept : AllByRecursion IsKept after.frames

acked_to : (n : ℕ) (ring : RingState) → ring.acknowledged ≤ n → n ≤ ring_made ring → AllByRecursion IsKept ring.frames → Acked ring (ring_ack n ring) (max ring.acknowledged n)
acked_to n ring low high h = record {
  made = omega (arith, length-drop (n - ring.acknowledged) ring.frames);
  acknowledged = omega arith;
  shorter = omega (arith, length-drop (n - ring.acknowledged) ring.frames);
  kept = all_drop IsKept (n - ring.acknowledged) ring.frames h;
}

-- where a frame is not refused by its connection, what it acknowledges is made, and no less than was
acked : (judge : Judge) (part : FrameRole) (answer : Option ℕ) (ring : RingState) → judge.acknowledged ≡ ring.acknowledged → judge.made ≡ ring_made ring → link_fault judge answer part ≡ None
    → max judge.acknowledged (count_in part) ≤ judge.made → AllByRecursion IsKept ring.frames → Acked ring (acked_by part ring) (max ring.acknowledged (count_in part))
acked judge (Counted closes) answer ring ea em h k all = record { made = refl; acknowledged = omega arith; shorter = omega arith; kept = all }
acked judge (Tells n) None ring ea em h k all = absurd cc
acked judge (Tells n) (Some p) ring ea em h k all =
    let f : (nat_lt n judge.acknowledged ≡ false) × (nat_lt (p + judge.whole) n ≡ false) = two_fail (nat_lt n judge.acknowledged) (nat_lt (p + judge.whole) n) h in
    acked_to n ring (omega (arith, ea, ltb-false n judge.acknowledged f.0)) (omega (arith, em, k)) all
acked judge (Greets t c n) None ring ea em h k all =
    let f : FourFail (not (bytes_eq t judge.token)) (not (c == judge.connection)) (nat_lt n judge.acknowledged) (nat_lt judge.made n) =
    four_fail (not (bytes_eq t judge.token)) (not (c == judge.connection)) (nat_lt n judge.acknowledged) (nat_lt judge.made n) h in
    acked_to n ring (omega (arith, ea, ltb-false n judge.acknowledged f.third)) (omega (arith, em, k)) all
acked judge (Greets t c n) (Some p) ring ea em h k all = absurd cc

-- the counts of the connection then
abbrev here_with : FrameRole → Here → Here
here_with part here = record here { answer = first_count here.answer (received_in part); next = next_after part here.next }

match_none : (answer : Option ℕ) (P : ℕ → Type 0) → ((p : ℕ) → answer ≡ Some p → P p) → MatchOption answer (Unit {0}) P
match_none None P h = tt
match_none (Some p) P h = h p refl

match_some : (P : ℕ → Type 0) (answer : Option ℕ) (p : ℕ) → answer ≡ Some p → MatchOption answer (Unit {0}) P → P p
match_some P None p e h = absurd cc
match_some P (Some q) p e h = let same : q ≡ p = cc in subst P same h

abbrev one_if : Bool → ℕ
one_if b = cond b 1 0

one_of : {b : Bool} → b ≡ false → one_if b ≡ 0
one_of {b} e = ap one_if e

sums : (judge : Judge) (part : FrameRole) (here : Here) (made acknowledged : ℕ) → link_fault judge here.answer part ≡ None → max judge.acknowledged (count_in part) ≤ judge.made → judge.made ≡ made → AreCounts made acknowledged here
    → (p : ℕ) → first_count here.answer (received_in part) ≡ Some p → (p + here.whole + cond here.counts 1 0 ≡ next_after part here.next) × (next_after part here.next ≤ made)
sums judge (Counted closes) here made acknowledged h k m a p e =
    let before : (p + here.whole + cond here.counts 1 0 ≡ here.next) × (here.next ≤ made) × (acknowledged ≤ p + here.whole) = a.answered p (sym (first_count-none here.answer) ∙ e) in
    (before.0, before.1)
sums judge (Tells n) here made acknowledged h k m a p e =
    let before : (p + here.whole + cond here.counts 1 0 ≡ here.next) × (here.next ≤ made) × (acknowledged ≤ p + here.whole) = a.answered p (sym (first_count-none here.answer) ∙ e) in
    (before.0, before.1)
sums judge (Greets t c n) here made acknowledged h k m a p e = go here.answer refl
  where
    go : (answer : Option ℕ) → here.answer ≡ answer → (p + here.whole + cond here.counts 1 0 ≡ n) × (n ≤ made)
    go None d =
        let none : (here.counts ≡ false) × (here.whole ≡ 0) = a.unanswered d in
        let same : Some n ≡ Some p = sym (ap (λ (o : Option ℕ). first_count o (Some n)) d) ∙ e in
        let number : n ≡ p = cc in
        (omega (arith, none.1, number, one_of none.0), omega (arith, k, m))
    go (Some q) d =
        let never : link_fault judge (Some q) (Greets t c n) ≡ None = subst (λ (o : Option ℕ). link_fault judge o (Greets t c n) ≡ None) d h in
        absurd cc

unanswered_after : (judge : Judge) (part : FrameRole) (here : Here) (made acknowledged : ℕ) → AreCounts made acknowledged here → first_count here.answer (received_in part) ≡ None → (here.counts ≡ false) × (here.whole ≡ 0)
unanswered_after judge part here made acknowledged a e = a.unanswered (go here.answer (received_in part) e)
  where
    go : (answer received : Option ℕ) → first_count answer received ≡ None → answer ≡ None
    go None received d = refl
    go (Some q) received d = absurd cc

heard_counts : (judge : Judge) (part : FrameRole) (here : Here) (made acknowledged : ℕ) → link_fault judge here.answer part ≡ None → max judge.acknowledged (count_in part) ≤ judge.made
    → judge.made ≡ made → judge.acknowledged ≡ acknowledged → judge.whole ≡ here.whole → AreCounts made acknowledged here → AreCounts made (max acknowledged (count_in part)) (here_with part here)
heard_counts judge part here made acknowledged h k m e w a = record {
  unanswered = unanswered_after judge part here made acknowledged a;
  answered = λ p d.
      let sum : (p + here.whole + cond here.counts 1 0 ≡ next_after part here.next) × (next_after part here.next ≤ made) = sums judge part here made acknowledged h k m a p d in
      let most : max judge.acknowledged (count_in part) ≤ p + judge.whole =
      match_some (λ q. max judge.acknowledged (count_in part) ≤ q + judge.whole) (first_count here.answer (received_in part)) p d
      (acked_after judge part here.answer h (match_none here.answer (λ q. judge.acknowledged ≤ q + judge.whole) (λ q f. omega (arith, (a.answered q f).2, e, w)))) in
      (sum.0, sum.1, omega (arith, most, e, w));
}

-- no more frames are accepted than can be counted
pub few_counted : (judge : Judge) (answer : Option ℕ) (part : FrameRole) → link_fault judge answer part ≡ None → judge.accepted ≤ MOST_FRAMES → judge.accepted + cond (is_counted part) 1 0 ≤ MOST_FRAMES
few_counted judge None (Counted closes) h l = absurd cc
few_counted judge (Some p) (Counted closes) h l = go judge.closed (nat_le MOST_FRAMES judge.accepted) refl h
  where
    go : (a b : Bool) → nat_le MOST_FRAMES judge.accepted ≡ b → first_of ((a, AfterClose) ∷ (b, CountSpent) ∷ []) ≡ None → judge.accepted + 1 ≤ MOST_FRAMES
    go true b e d = absurd cc
    go false true e d = absurd cc
    go false false e d = omega (arith, leb-false MOST_FRAMES judge.accepted e)
few_counted judge answer (Tells n) h l = omega arith
few_counted judge answer (Greets t c n) h l = omega arith

-- the connection that is up, behind a frame
heard_here : (ring after : RingState) (accepted more last known : ℕ) (frame : Frame) (here : Here) → Acked ring after known → AreCounts (ring_made ring) known (here_with (role frame) here) → accepted ≤ more
    → SoundHere ring accepted last here → SoundHere after more last (here_heard frame here)
heard_here ring after accepted more last known frame here k a l h = record {
  number = h.number;
  told = omega (arith, h.told);
  counts = record {
    unanswered = a.unanswered;
    answered = λ p e. ((a.answered p e).0, omega (arith, (a.answered p e).1, k.made), omega (arith, (a.answered p e).2, k.acknowledged));
  };
  idle = h.idle;
}

sound_heard : (s : Now) (event : Event) → Sound s → FrameDue s event → Sound (step event s)
unfolding step
sound_heard s event h d =
    let part : FrameRole = role d.frame in
    let judge : Judge = judge_in s.token s.kept.ring s.kept.accepted s.kept.heard_close d.here in
    let none : link_fault judge d.here.answer part ≡ None = (first_none (link_fault judge d.here.answer part) (content_fault s.live.tables s.live.taking d.frame) d.passes).0 in
    let sound : SoundHere s.kept.ring s.kept.accepted s.kept.last d.here = subst (λ (here : Option Here). MatchOption here (Unit {0}) (SoundHere s.kept.ring s.kept.accepted s.kept.last)) d.is_here h.here in
    let most : max judge.acknowledged (count_in part) ≤ judge.made =
    known_after judge part d.here.answer none (omega arith) (λ p e. omega (arith, (sound.counts.answered p e).0, (sound.counts.answered p e).1)) in
    let ring : Acked s.kept.ring (acked_by part s.kept.ring) (max s.kept.ring.acknowledged (count_in part)) = acked judge part d.here.answer s.kept.ring refl refl none most h.frames in
    let counts : AreCounts (ring_made s.kept.ring) (max s.kept.ring.acknowledged (count_in part)) (here_with part d.here) =
    heard_counts judge part d.here (ring_made s.kept.ring) s.kept.ring.acknowledged none most refl refl refl sound.counts in
    let after : SoundHere (acked_by part s.kept.ring) (s.kept.accepted + cond (is_counted part) 1 0) s.kept.last (here_heard d.frame d.here) =
    heard_here s.kept.ring (acked_by part s.kept.ring) s.kept.accepted (s.kept.accepted + cond (is_counted part) 1 0) s.kept.last (max s.kept.ring.acknowledged (count_in part)) d.frame d.here ring counts (omega arith) sound in
    subst (λ (e : Event). Sound (step e s)) (sym d.is) (record {
      places = omega (arith, h.places, ring.shorter);
      frames = ring.kept;
      few = few_counted judge d.here.answer part none h.few;
      here = subst (λ (here : Option Here). MatchOption (option_map (here_heard d.frame) here) (Unit {0}) (SoundHere (acked_by part s.kept.ring) (s.kept.accepted + cond (is_counted part) 1 0) s.kept.last)) (sym d.is_here) after;
    })

-- ---- a message is taken

close_most : (closing : Closing) → reserved_close closing ≤ 1
close_most Open = omega arith
close_most (Asked reason) = omega arith
close_most Made = omega arith

group_most : (owes : Option Owed) → reserved_group owes ≤ MOST_GROUP
group_most None = omega arith
group_most (Some owed) = omega arith

sound_took : (s : Now) → Sound s → Room s.live.sending.owes s.kept.ring → (it : Turn) → Sound (took it s)
sound_took s h room turns.Idle = h
sound_took s h room (turns.Refuses fault) = h
sound_took s h room (turns.Takes it) = record {
  places = omega (arith, room.enough, group_most it.sending.owes, close_most s.kept.closing);
  frames = h.frames;
  few = h.few;
  here = h.here;
}

-- ---- its group is made

owes_some : (owes : Option Owed) (jobs : List Job) (made : MadeGroup) → group_due owes jobs ≡ Some made → reserved_group owes ≡ MOST_GROUP
owes_some None jobs made e = absurd cc
owes_some (Some owed) jobs made e = refl

sound_grouped : (s : Now) → Sound s → (found : Option MadeGroup) → group_due s.live.sending.owes s.kept.jobs ≡ found → GroupFits s → Sound (grouped found s)
sound_grouped s h None e fits = h
sound_grouped s h (Some made) e fits =
    let fit : (length made.frames ≤ MOST_GROUP) × AllByRecursion IsFrame made.frames = fits made e in
    record {
      places = omega (arith, h.places, fit.0, owes_some s.live.sending.owes s.kept.jobs made e, length-append s.kept.ring.frames (map spelling made.frames), length-map made.frames spelling);
      frames = all_append IsKept s.kept.ring.frames (map spelling made.frames) h.frames (all_kept made.frames fit.1);
      few = h.few;
      here = pushed_here s.kept.ring (map spelling made.frames) s.kept.accepted s.kept.last s.live.here h.here;
    }

-- ---- CLOSE is made

sound_ended : (s : Now) → Sound s → (closing : Closing) → s.kept.closing ≡ closing → Sound (ended closing s)
sound_ended s h Open e = h
sound_ended s h (Asked reason) e =
    let one : reserved_close s.kept.closing ≡ 1 = ap reserved_close e in
    record {
      places = omega (arith, h.places, one, length-append s.kept.ring.frames (spelling (frames.Close reason) ∷ []));
      frames = all_append IsKept s.kept.ring.frames (spelling (frames.Close reason) ∷ []) h.frames (kept_close reason, tt);
      few = h.few;
      here = pushed_here s.kept.ring (spelling (frames.Close reason) ∷ []) s.kept.accepted s.kept.last s.live.here h.here;
    }
sound_ended s h Made e = h

-- ---- a front is chosen

-- the bytes of a frame have some
not_empty : (bytes : List ℕ) → 0 < length bytes → bytes ≡ [] → ⊥
not_empty bytes l e = omega (arith, ap length e)

sound_picked : (ring : RingState) (accepted last : ℕ) (here : Here) → AllByRecursion IsKept ring.frames → (pick : Pick) → picks accepted (ring_at here.next ring) here ≡ pick
    → SoundHere ring accepted last here → SoundHere ring accepted last (picked pick here)
sound_picked ring accepted last here all Nothing e h = h
sound_picked ring accepted last here all (Tell n) e h =
    let k : TellsNext accepted here n = tells_next accepted (ring_at here.next ring) here n e in
    let none : here.counts ≡ false = h.idle k.empty in
    record {
      number = h.number;
      told = omega (arith, k.count_is);
      counts = record {
        unanswered = λ d. (refl, (h.counts.unanswered d).1);
        answered = λ p d.
            let before : (p + here.whole + cond here.counts 1 0 ≡ here.next) × (here.next ≤ ring_made ring) × (ring.acknowledged ≤ p + here.whole) = h.counts.answered p d in
            let nothing : cond here.counts 1 0 ≡ 0 = one_of none in
            (omega (arith, before.0, nothing), before.1, before.2);
      };
      idle = λ d. refl;
    }
sound_picked ring accepted last here all (Send bytes) e h =
    let k : SendsNext accepted (ring_at here.next ring) here bytes = sends_next accepted (ring_at here.next ring) here bytes e in
    let none : here.counts ≡ false = h.idle k.empty in
    let is_kept : IsKept bytes = kept_at ring.frames (here.next - ring.acknowledged) bytes all k.bytes_are in
    let within : here.next - ring.acknowledged < length ring.frames = slice_get_within ring.frames (here.next - ring.acknowledged) bytes k.bytes_are in
    record {
      number = h.number;
      told = h.told;
      counts = record {
        unanswered = λ d. absurd (let never : Some k.p ≡ None = sym k.answered ∙ d in cc);
        answered = λ p d.
            let before : (p + here.whole + cond here.counts 1 0 ≡ here.next) × (here.next ≤ ring_made ring) × (ring.acknowledged ≤ p + here.whole) = h.counts.answered p d in
            let nothing : cond here.counts 1 0 ≡ 0 = one_of none in
            (omega (arith, before.0, nothing), omega (arith, within), before.2);
      };
      idle = λ d. absurd (not_empty bytes is_kept.0 d);
    }

sound_chose : (s : Now) → Sound s → Sound (step Chose s)
unfolding step
sound_chose s h = record {
  places = h.places;
  frames = h.frames;
  few = h.few;
  here = here_changed (λ here. chosen s.kept.accepted (ring_at here.next s.kept.ring) here) s.kept.ring s.kept.accepted s.kept.last s.live.here
      (λ here e. sound_picked s.kept.ring s.kept.accepted s.kept.last here h.frames (picks s.kept.accepted (ring_at here.next s.kept.ring) here) refl) h.here;
}

-- ---- all of them

sound_step_took : (s : Now) → Sound s → is_free s.live.sending.owes s.kept.ring ≡ true → Sound (step Took s)
unfolding step
sound_step_took s h free = sound_took s h (room_of s.live.sending.owes s.kept.ring free) (turn s.live.tables s.live.sending)

sound_step_grouped : (s : Now) → Sound s → GroupFits s → Sound (step Grouped s)
unfolding step
sound_step_grouped s h fits = sound_grouped s h (group_due s.live.sending.owes s.kept.jobs) refl fits

sound_step_ended : (s : Now) → Sound s → Sound (step Ended s)
unfolding step
sound_step_ended s h = sound_ended s h s.kept.closing refl

pub sound_inside : SoundInside
sound_inside event s h fits due = by_phase (due_in s event due)
  where
    by_phase : DueIn s event → Sound (step event s)
    by_phase (InHear d) = sound_heard s event h (frame_due s event d)
    by_phase (InGroup a d) = let k : GroupDue s event = group_is_due s event d in subst (λ (e : Event). Sound (step e s)) (sym k.is) (sound_step_grouped s h fits)
    by_phase (InTreat a b d) = let k : TurnDue s event = turn_due s event d in subst (λ (e : Event). Sound (step e s)) (sym k.is) (sound_step_took s h k.free)
    by_phase (InEnd a b c d) = let k : EndDue s event = end_is_due s event d in subst (λ (e : Event). Sound (step e s)) (sym k.is) (sound_step_ended s h)
    by_phase (InChoose a b c f d) = let k : ChoiceDue s event = choice_due s event d in subst (λ (e : Event). Sound (step e s)) (sym k.is) (sound_chose s h)
