-- Just the frames that nothing refuses are heard and accepted.
use Rattle.std.proofs.Common.{◌≡◌, Option, Some, None, refl, ap, subst, ◌∙◌}
use Rattle.transfer_frames.specs.declared.cause.FrameCause.{FrameCause}
use Rattle.transfer_frames.specs.declared.frame.Frame.{Frame}
use Rattle.transfer_frames.specs.Front.{front}
use Rattle.transfer_frames.specs.Grammar.{role}
use Rattle.half_model.specs.Content.{content_fault}
use Rattle.pair_model.specs.LinkFaults.{Judge, link_fault}
use Rattle.pair_model.specs.Refusals.{first_cause}
use Rattle.pair_model.proofs.Seen.{one_accepted}
use Rattle.side_model.specs.Due.{judge_in, hear, hear_on, hear_front, hear_frame, work, next}
use Rattle.side_model.specs.Events.{Heard, Took, Grouped, Ended, Chose, Next, Do, or_next}
use Rattle.side_model.specs.Judging.{IsNext, HearsJustThose, JudgedByRecord, AcceptsJustThose}
use Rattle.side_model.specs.State.{Now}
use Rattle.side_model.proofs.Dues.{DueIn, InHear, InGroup, InTreat, InEnd, InChoose, due_in, FrameDue, frame_due, group_is_due, turn_due, end_is_due, choice_due}
use Rattle.side_model.proofs.Stopping.{judge_is}

-- ---- by the state

none_of_both : (one other : Option FrameCause) → first_cause one other ≡ None → (one ≡ None) × (other ≡ None)
none_of_both None other e = (refl, e)
none_of_both (Some cause) other e = absurd cc

is_next : (s : Now) (frame : Frame) → next s ≡ Do (Heard frame) → IsNext s frame
is_next s frame d = by_phase (due_in s (Heard frame) d)
  where
    by_frame : FrameDue s (Heard frame) → IsNext s frame
    by_frame f =
        let is : Heard frame ≡ Heard f.frame = f.is in
        let same : f.frame ≡ frame = cc in
        let judge : Judge = judge_in s.token s.kept.ring s.kept.accepted s.kept.heard_close f.here in
        let none : (link_fault judge f.here.answer (role f.frame) ≡ None) × (content_fault s.live.tables s.live.taking f.frame ≡ None) =
        none_of_both (link_fault judge f.here.answer (role f.frame)) (content_fault s.live.tables s.live.taking f.frame) f.passes in
        subst (λ (x : Frame). IsNext s x) same (record { here = f.here; is_here = f.is_here; stands = f.stands; link = none.0; content = none.1 })

    by_phase : DueIn s (Heard frame) → IsNext s frame
    by_phase (InHear k) = by_frame (frame_due s (Heard frame) k)
    by_phase (InGroup a k) = absurd (let never : Heard frame ≡ Grouped = (group_is_due s (Heard frame) k).is in cc)
    by_phase (InTreat a b k) = absurd (let never : Heard frame ≡ Took = (turn_due s (Heard frame) k).is in cc)
    by_phase (InEnd a b c k) = absurd (let never : Heard frame ≡ Ended = (end_is_due s (Heard frame) k).is in cc)
    by_phase (InChoose a b c f k) = absurd (let never : Heard frame ≡ Chose = (choice_due s (Heard frame) k).is in cc)

first_none : (one other : Option FrameCause) → one ≡ None → other ≡ None → first_cause one other ≡ None
first_none None other e d = d
first_none (Some cause) other e d = absurd cc

heard_next : (s : Now) (frame : Frame) → IsNext s frame → next s ≡ Do (Heard frame)
unfolding next hear
heard_next s frame n =
    let judge : Judge = judge_in s.token s.kept.ring s.kept.accepted s.kept.heard_close n.here in
    let on : hear s ≡ hear_front judge s.live.tables s.live.taking n.here (front n.here.unread) =
    ap (hear_on s.token s.kept.ring s.kept.accepted s.kept.heard_close s.live.tables s.live.taking) n.is_here in
    let found : hear_front judge s.live.tables s.live.taking n.here (front n.here.unread)
    ≡ hear_frame n.here frame (first_cause (link_fault judge n.here.answer (role frame)) (content_fault s.live.tables s.live.taking frame)) =
    ap (hear_front judge s.live.tables s.live.taking n.here) n.stands in
    let passes : first_cause (link_fault judge n.here.answer (role frame)) (content_fault s.live.tables s.live.taking frame) ≡ None =
    first_none (link_fault judge n.here.answer (role frame)) (content_fault s.live.tables s.live.taking frame) n.link n.content in
    ap (λ (due : Next). or_next due (work s)) (on ∙ found ∙ ap (hear_frame n.here frame) passes)

pub hears_just_those : HearsJustThose
hears_just_those s frame = (is_next s frame, heard_next s frame)

pub judged_by_record : JudgedByRecord
judged_by_record = judge_is

-- ---- by the records

pub accepts_just_those : AcceptsJustThose
accepts_just_those side token book fault law = record {
  seen = law.wire.seen;
  bound = law.wire.bound;
  sees = law.wire.sees;
  unrefused = law.wire.passes;
  accepted_are = law.heard.frames_are ∙ one_accepted law.heard.sees law.wire.sees;
  waits = law.wire.waits;
}
