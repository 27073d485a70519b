-- What holds wherever a story has come to: the tables are sane, what is owed makes a good group, and nothing is owed once CLOSE is made.
use Rattle.std.proofs.Common.{◌≡◌, ℕ, true, List, [], ◌∷◌, ℤ, Option, Some, None, Result, Ok, Err, ◌⊎◌, inl, inr, ⊎_elim, refl, sym, ap, ◌∙◌, subst, arith}
use Rattle.std.proofs.lemmas.Cmp.{int_cmp_total}
use Rattle.std.proofs.lemmas.Map.Lookups.{exact_signed}
use Rattle.std.proofs.lemmas.Bool.{false≢true}
use Rattle.std.specs.List.Sorted.{IsStrictlySortedBy}
use Rattle.std.specs.Option.{MatchOption}
use Rattle.std.specs.Ordering.{int_cmp}
use Rattle.wp_outside.specs.declared.kinds.Side.{Side}
use Rattle.wl_objects.specs.Tracking.{Admission, step}
use Rattle.handle_table.specs.declared.handles.Handle.{Handle}
use Rattle.transfer_frames.specs.declared.cause.FrameCause.{FrameCause}
use Rattle.transfer_frames.specs.declared.frame.Frame.{Frame}
use Rattle.transfer_frames.specs.declared.frame.Frame.TheVariants.{Protocol, Inject, OpenFile, ExtendFile, Fill, OpenPipe, PipeTransfer, PipeShutR, PipeShutW, Ack, Restart, Close}
use Rattle.transfer_frames.specs.Grammar.{IsFrame}
use Rattle.transfer_frames.specs.Numbers.{IsRid}
use Rattle.half_model.specs.declared.notes.CopyRecord.{CopyRecord}
use Rattle.half_model.specs.Content.{Taking, Passage, heard_messages, passage_of, heard}
use Rattle.half_model.specs.Group.{Owed, owed_by, note_refusal, refusal_in}
use Rattle.half_model.specs.Log.{Mark, Taken, Heard, Grouped, Dropped, LogState, log_new, MayTake, MayMake, Lawful, after_plan, on_pipes, after_lone, after_group, log_next, Logs, log_after}
use Rattle.pipe_relay.specs.Pipes.{Rids, has_rid, with_rid, PipesState}
use Rattle.half_model.specs.PipeTurn.{with_pipes, after_made}
use Rattle.half_model.specs.Planning.{Plan, Refusal, plan}
use Rattle.half_model.specs.Shm.{ShmState}
use Rattle.wl_tables.specs.Ways.{own_way}
use Rattle.half_model.specs.StoryLaws.{now, IsStory}
use Rattle.half_model.specs.Tables.{Tables}
use Rattle.half_model.proofs.Maps.{any_cases}
use Rattle.half_model.proofs.Owing.{OwedGood, owed_good}
use Rattle.half_model.proofs.Plans.{IsPlanned, planned}
use Rattle.half_model.proofs.Sane.{Sane}
use Rattle.half_model.proofs.SaneSteps.{SaneTables, sane_planned}

pub record Sound (side : Side) (s : LogState) : Type 0 where
  pub tables : SaneTables side s.tables s.shm
  pub owes : MatchOption s.owes (Unit {0}) OwedGood
  pub still : s.closed ≡ true → s.owes ≡ None

-- ---- a message that may be taken

-- its plan, and that its note has what it wants
pub record IsPassed (s : LogState) (message : List ℕ) (handle : Option Handle) (segments : List ℕ) : Type 0 where
  pub done : Admission
  pub it : Plan
  pub is : plan s.tables s.shm message handle ≡ Ok it
  pub stepped : step (own_way s.tables.handles.side) s.tables.objects.tracked message ≡ Ok done
  pub is_planned : IsPlanned s.tables s.shm message handle done it
  pub note : note_refusal it segments ≡ None

refused_none : (told : Result Plan Refusal) (segments : List ℕ) → refusal_in told segments ≡ None → (it : Plan) × (told ≡ Ok it) × (note_refusal it segments ≡ None)
refused_none (Ok it) segments e = (it, refl, e)
refused_none (Err refusal) segments e = absurd cc

pub passed : (s : LogState) (message : List ℕ) (handle : Option Handle) (segments : List ℕ) → MayTake s message handle segments → IsPassed s message handle segments
passed s message handle segments may =
    let got = refused_none (plan s.tables s.shm message handle) segments may.passes in
    let full = planned s.tables s.shm message handle got.0 got.1 in
    record { done = full.0; it = got.0; is = got.1; stepped = full.1; is_planned = full.2; note = got.2 }

-- what it leaves
pub after_taken : (s : LogState) (message : List ℕ) (handle : Option Handle) (segments : List ℕ) (p : IsPassed s message handle segments)
    → log_next s (Taken message handle segments) ≡ record s { tables = p.it.tables; shm = p.it.shm; owes = Some (owed_by p.it segments) }
after_taken s message handle segments p = ap (λ (r : Result Plan Refusal). after_plan s segments r) p.is

sound_taken : (side : Side) (s : LogState) (message : List ℕ) (handle : Option Handle) (segments : List ℕ)
    → Sound side s → MayTake s message handle segments → Sound side (log_next s (Taken message handle segments))
sound_taken side s message handle segments h may =
    let p = passed s message handle segments may in
    let P : LogState → Type 0 = λ t. Sound side t in
    subst P (sym (after_taken s message handle segments p)) (record {
      tables = sane_planned side s.tables s.shm message handle p.done p.it h.tables p.is_planned;
      owes = owed_good side s.tables s.shm message handle p.done p.it segments h.tables p.is_planned may.whole p.note;
      still = λ e. absurd (false≢true (sym may.goes_on ∙ e));
    })

-- ---- a frame that is heard

-- the tables of both halves may differ in the rids that the other side opened and in the pipes that are ended
pub record StaySane (old new : Tables) : Type 0 where
  pub side_is : new.handles.side ≡ old.handles.side
  pub passed_is : new.handles.passed ≡ old.handles.passed
  pub own_is : new.pipes.own ≡ old.pipes.own
  pub other_is : (rid : ℤ) → has_rid rid new.pipes.other ≡ true → (has_rid rid old.pipes.other ≡ true) ⊎ IsRid rid

same_tables : (tables : Tables) → StaySane tables tables
same_tables tables = record { side_is = refl; passed_is = refl; own_is = refl; other_is = λ rid e. inl e }

messages_stay : (tables : Tables) (taking : Taking) (told : Result Passage FrameCause) → StaySane tables (heard_messages tables taking told).tables
messages_stay tables taking (Ok it) = record { side_is = refl; passed_is = refl; own_is = refl; other_is = λ rid e. inl e }
messages_stay tables taking (Err cause) = same_tables tables

opened_pipe : (rid : ℤ) (others : Rids) → IsRid rid → (other : ℤ) → has_rid other (with_rid rid others) ≡ true → (has_rid other others ≡ true) ⊎ IsRid other
opened_pipe rid others good other e =
    ⊎_elim
    (λ at. let P : ℤ → Type 0 = λ r. IsRid r in inr (subst P (sym at.0) good))
    (λ same. inl (sym same ∙ e))
    (any_cases int_cmp_total exact_signed others rid other)

pub hearing_stays : (tables : Tables) (taking : Taking) (frame : Frame) → IsFrame frame → StaySane tables (heard tables taking frame).tables
hearing_stays tables taking (Protocol bytes) f = messages_stay tables taking (passage_of tables taking bytes)
hearing_stays tables taking (Inject rids) f = same_tables tables
hearing_stays tables taking (OpenFile rid size) f = record { side_is = refl; passed_is = refl; own_is = refl; other_is = λ r e. inl e }
hearing_stays tables taking (ExtendFile rid size) f = same_tables tables
hearing_stays tables taking (Fill rid start end bytes) f = same_tables tables
hearing_stays tables taking (OpenPipe rid) f = record { side_is = refl; passed_is = refl; own_is = refl; other_is = opened_pipe rid tables.pipes.other f.fields }
hearing_stays tables taking (PipeTransfer rid bytes) f = record { side_is = refl; passed_is = refl; own_is = refl; other_is = λ r e. inl e }
hearing_stays tables taking (PipeShutR rid) f = record { side_is = refl; passed_is = refl; own_is = refl; other_is = λ r e. inl e }
hearing_stays tables taking (PipeShutW rid) f = record { side_is = refl; passed_is = refl; own_is = refl; other_is = λ r e. inl e }
hearing_stays tables taking (Ack count) f = record { side_is = refl; passed_is = refl; own_is = refl; other_is = λ r e. inl e }
hearing_stays tables taking (Restart token connection received) f = record { side_is = refl; passed_is = refl; own_is = refl; other_is = λ r e. inl e }
hearing_stays tables taking (Close reason) f = record { side_is = refl; passed_is = refl; own_is = refl; other_is = λ r e. inl e }

sane_stays : (side : Side) (old new : Tables) (shm : ShmState) → SaneTables side old shm → StaySane old new → SaneTables side new shm
sane_stays side old new shm h stay =
    let own_rids : Rids = new.pipes.own in
    let P : List Handle → Type 0 = λ ps. Sane side ps own_rids new.pipes.other shm.told shm.roles in
    let Q : Rids → Type 0 = λ own. Sane side old.handles.passed own new.pipes.other shm.told shm.roles in
    let moved : Sane side old.handles.passed old.pipes.own new.pipes.other shm.told shm.roles = record {
      few = h.1.few;
      sizes = h.1.sizes;
      rids = h.1.rids;
      files = h.1.files;
      pools = h.1.pools;
      own_given = h.1.own_given;
      other_is = λ rid e. ⊎_elim (λ was. h.1.other_is rid was) (λ good. good) (stay.other_is rid e);
    } in
    (stay.side_is ∙ h.0, subst P (sym stay.passed_is) (subst Q (sym stay.own_is) moved))

-- ---- a group

own-after_made : (pipes : PipesState) (frame : Frame) → (after_made pipes frame).own ≡ pipes.own
own-after_made pipes (PipeShutW rid) = refl
own-after_made pipes (PipeShutR rid) = refl
own-after_made pipes _ = refl

other-after_made : (pipes : PipesState) (frame : Frame) → (after_made pipes frame).other ≡ pipes.other
other-after_made pipes (PipeShutW rid) = refl
other-after_made pipes (PipeShutR rid) = refl
other-after_made pipes _ = refl

made_stays : (tables : Tables) (frame : Frame) → StaySane tables (with_pipes (after_made tables.pipes frame) tables)
made_stays tables frame = record {
  side_is = refl;
  passed_is = refl;
  own_is = own-after_made tables.pipes frame;
  other_is = λ rid e. inl (ap (λ (rids : Rids). has_rid rid rids) (sym (other-after_made tables.pipes frame)) ∙ e);
}

-- a frame of a pipe
pipe_made : (side : Side) (s : LogState) (frame : Frame) → Sound side s → s.owes ≡ None → Sound side (on_pipes (λ pipes. after_made pipes frame) s)
pipe_made side s frame h none =
    record { tables = sane_stays side s.tables _ s.shm h.tables (made_stays s.tables frame); owes = h.owes; still = λ e. none }

lone_made : (side : Side) (s : LogState) (frame : Frame) → Sound side s → s.owes ≡ None → Sound side (after_lone s frame)
lone_made side s (Close reason) h none = record { tables = h.tables; owes = h.owes; still = λ e. none }
lone_made side s (Protocol bytes) h none = pipe_made side s (Protocol bytes) h none
lone_made side s (Inject rids) h none = pipe_made side s (Inject rids) h none
lone_made side s (OpenFile rid size) h none = pipe_made side s (OpenFile rid size) h none
lone_made side s (ExtendFile rid size) h none = pipe_made side s (ExtendFile rid size) h none
lone_made side s (Fill rid start end bytes) h none = pipe_made side s (Fill rid start end bytes) h none
lone_made side s (OpenPipe rid) h none = pipe_made side s (OpenPipe rid) h none
lone_made side s (PipeTransfer rid bytes) h none = pipe_made side s (PipeTransfer rid bytes) h none
lone_made side s (PipeShutR rid) h none = pipe_made side s (PipeShutR rid) h none
lone_made side s (PipeShutW rid) h none = pipe_made side s (PipeShutW rid) h none
lone_made side s (Ack count) h none = pipe_made side s (Ack count) h none
lone_made side s (Restart token connection received) h none = pipe_made side s (Restart token connection received) h none

sound_made : (side : Side) (s : LogState) (owes : Option Owed) (frames : List Frame) (copies : List CopyRecord)
    → s.owes ≡ owes → Sound side s → MayMake s owes frames copies → Sound side (after_group s owes frames)
sound_made side s (Some owed) frames copies is h may = record { tables = h.tables; owes = tt; still = λ e. refl }
sound_made side s None [] copies is h may = absurd may
sound_made side s None (frame ∷ []) copies is h may = lone_made side s frame h is
sound_made side s None (frame ∷ next ∷ frames) copies is h may = absurd may

-- ---- any mark

pub sound_next : (side : Side) (s : LogState) (mark : Mark) → Sound side s → Lawful s mark → Sound side (log_next s mark)
sound_next side s (Taken message handle segments) h may = sound_taken side s message handle segments h may
sound_next side s (Heard frame) h may = record {
  tables = sane_stays side s.tables (heard s.tables s.taking frame).tables s.shm h.tables (hearing_stays s.tables s.taking frame may.is_frame);
  owes = h.owes;
  still = h.still;
}
sound_next side s (Grouped frames copies) h may = sound_made side s s.owes frames copies refl h may
sound_next side s (Dropped rid) h may = record {
  tables = sane_stays side s.tables (log_next s (Dropped rid)).tables s.shm h.tables (record { side_is = refl; passed_is = refl; own_is = refl; other_is = λ r e. inl e });
  owes = h.owes;
  still = h.still;
}

none_rising : IsStrictlySortedBy int_cmp []
unfolding IsStrictlySortedBy
none_rising = tt

pub sound_new : (side : Side) → Sound side (log_new side)
sound_new side = record {
  tables = (
    refl,
    record {
      few = omega arith;
      sizes = record { rising = none_rising; each = tt; sum = omega arith };
      rids = λ rid size e. absurd cc;
      files = λ place handle e. absurd cc;
      pools = λ id file e. absurd cc;
      own_given = λ rid e. absurd (false≢true e);
      other_is = λ rid e. absurd (false≢true e);
    },
  );
  owes = tt;
  still = λ e. refl;
}

pub sound_after : (side : Side) (s : LogState) (story : List Mark) → Sound side s → Logs s story → Sound side (log_after s story)
sound_after side s [] h logs = h
sound_after side s (mark ∷ story) h logs = sound_after side (log_next s mark) story (sound_next side s mark h logs.0) logs.1

pub sound_now : (side : Side) (story : List Mark) → IsStory side story → Sound side (now side story)
sound_now side story logs = sound_after side (log_new side) story (sound_new side) logs
