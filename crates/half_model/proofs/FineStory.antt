-- The frames that a side makes may be heard, one behind the other.
use Rattle.std.proofs.Common.{◌≡◌, ℕ, ◌+◌, ◌*◌, ◌/◌, ◌<◌, ◌≤◌, Bool, true, false, cond, List, [], ◌∷◌, ◌++◌, length, ℤ, Option, Some, None, unwrap_or, Result, Ok, Err, ⊎_elim, refl, sym, ap, ◌∙◌, subst, arith}
use Rattle.std.proofs.lemmas.Bool.{le-ltb, and_parts, false≢true, not-true}
use Rattle.std.specs.List.{AllByRecursion}
use Rattle.block_intervals.specs.declared.run.Run.{Run}
use Rattle.block_intervals.specs.Sets.{last_end}
use Rattle.surface_damage.specs.Filled.{blocks_of}
use Rattle.wp_outside.specs.declared.kinds.Side.{Side}
use Rattle.transfer_frames.specs.declared.cause.FrameCause.{FrameCause}
use Rattle.transfer_frames.specs.declared.cause.FrameCause.TheVariants.{FillOutside}
use Rattle.transfer_frames.specs.declared.frame.Frame.{Frame}
use Rattle.transfer_frames.specs.declared.frame.Frame.TheVariants.{Protocol, PipeTransfer, PipeShutR, PipeShutW, Close}
use Rattle.half_model.specs.Filling.{pieces_of, fills, ending, Ascends, words_bytes}
use Rattle.mirror_pools.specs.Sizes.{ToldSizes, size_at, range_cause, fill_cause}
use Rattle.half_model.specs.Shm.{told_at}
use Rattle.std.proofs.lemmas.Cmp.{int_cmp_total}
use Rattle.std.proofs.lemmas.Map.Lookups.{exact_signed}
use Rattle.wl_wire.specs.Wire.{object_of}
use Rattle.wl_objects.specs.Tracking.{Admission}
use Rattle.handle_table.specs.declared.handles.Handle.{Handle}
use Rattle.half_model.specs.declared.deeds.Deed.{Deed}
use Rattle.half_model.specs.declared.notes.CopyRecord.{CopyRecord}
use Rattle.half_model.specs.Content.{Taking, Passage, passage_of, heard, heard_messages}
use Rattle.half_model.specs.Deeds.{deed_of}
use Rattle.half_model.specs.Group.{Owed, owed_by, IsGroup, words_in}
use Rattle.half_model.specs.Log.{Mark, Taken, Heard, Grouped, Dropped, LogState, log_new, MayMake, is_lone, after_lone, after_group, log_next, Logs, log_after}
use Rattle.pipe_relay.specs.Pipes.{Rids, has_rid, with_rid, PipesState, with_own}
use Rattle.half_model.specs.PipeTurn.{may_write}
use Rattle.half_model.specs.Planning.{Plan, with_pipe, is_new_pipe, plan_with, tell_in, seen_in}
use Rattle.half_model.specs.Shm.{ShmState, Passing, Tell, after_tell}
use Rattle.wl_tables.specs.Ways.{own_way}
use Rattle.half_model.specs.Story.{made_in}
use Rattle.half_model.specs.StoryLaws.{now, IsStory}
use Rattle.half_model.specs.Tables.{Tables}
use Rattle.half_model.proofs.Fine.{AllFine, Goes, goes_none, goes_append, fine_append, Agrees}
use Rattle.half_model.proofs.FineTaken.{TakenGoes, before_goes}
use Rattle.half_model.proofs.Maps.{any_cases, any_put}
use Rattle.half_model.proofs.Plans.{IsPlanned}
use Rattle.half_model.proofs.Sane.{told-after_deed}
use Rattle.half_model.proofs.SaneSteps.{SaneTables}
use Rattle.half_model.proofs.ShownLaws.{group_owes}
use Rattle.half_model.proofs.Sound.{Sound, passed, after_taken, sound_next, sound_new}
use Rattle.half_model.proofs.Fillings.{within_told}
use Rattle.half_model.proofs.FrameStates.{FrameState, frames_left, left-append, frame_left, none_left}
use Rattle.half_model.proofs.Fillings.{ends_last}
use Rattle.half_model.proofs.Pieces.{ascend_pieces}
use Rattle.half_model.proofs.Runs.{AreFew, last_end_by}

-- ---- fills

-- each piece ends within its file
abbrev pub FillsFine : ToldSizes → ℤ → List Run → Type 0
FillsFine told rid pieces = AllByRecursion (λ piece. fill_cause rid (64 * piece.end) told ≡ None) pieces

pub fills_goes : (side : Side) (f : FrameState) (rid : ℤ) (pieces : List Run) (bytes : List ℕ) → FillsFine f.sizes rid pieces → Goes side f (fills rid pieces bytes) f
fills_goes side f rid [] bytes h = goes_none side f
fills_goes side f rid (piece ∷ pieces) bytes h =
    let rest = fills_goes side f rid pieces _ h.1 in
    record { fine = (h.0, rest.fine); left = rest.left }

ends_by : (low high : ℕ) (pieces : List Run) → Ascends low pieces high → low ≤ high
ends_by low high [] h = h
ends_by low high (piece ∷ pieces) h = let rest = ends_by piece.end high pieces h.2 in omega (arith, rest, h.0, h.1)

piece_fits : (rid : ℤ) (told : ToldSizes) (end : ℕ) → 0 < end → end ≤ blocks_of (told_at rid told) → fill_cause rid (64 * end) told ≡ None
piece_fits rid told end some within = by (size_at rid told) refl
  where
    by : (size : Option ℕ) → size_at rid told ≡ size → range_cause size (64 * end) ≡ None
    by None e = let zero : told_at rid told ≡ 0 = ap (λ (o : Option ℕ). unwrap_or o 0) e in absurd (omega (arith, some, within, zero))
    by (Some size) e =
        let at : told_at rid told ≡ size = ap (λ (o : Option ℕ). unwrap_or o 0) e in
        ap (λ (b : Bool). cond b (Some FillOutside) None) (le-ltb ((size + 63) / 64 * 64) (64 * end) (omega (arith, within, at)))

fits_all : (rid : ℤ) (told : ToldSizes) (low high : ℕ) (pieces : List Run) → high ≤ blocks_of (told_at rid told) → Ascends low pieces high → FillsFine told rid pieces
fits_all rid told low high [] l h = tt
fits_all rid told low high (piece ∷ pieces) l h =
    let last = ends_by piece.end high pieces h.2 in
    (piece_fits rid told piece.end (omega (arith, h.1)) (omega (arith, last, l)), fits_all rid told piece.end high pieces l h.2)

-- the pieces of runs that end by the told size
pub fills_fit : (rid : ℤ) (told : ToldSizes) (runs : List Run) → AreFew runs (blocks_of (told_at rid told)) → FillsFine told rid (pieces_of runs)
fills_fit rid told runs few =
    fits_all rid told 0 (last_end 0 runs) (pieces_of runs) (last_end_by 0 (blocks_of (told_at rid told)) runs (omega arith) few.end)
    (ascend_pieces (last_end 0 runs) runs few.rise (ends_last runs few.rise))

-- ---- what a side has

pub record Has : Type 0 where
  pub told : ToldSizes
  pub count : ℕ
  pub own : Rids
  pub left : Rids
  pub closed : Rids

abbrev pub has_with : Tables → ShmState → Has
has_with tables shm =
    record { told = shm.told; count = length tables.handles.passed; own = tables.pipes.own; left = tables.pipes.left; closed = tables.pipes.closed }

abbrev pub has_of : LogState → Has
has_of s = has_with s.tables s.shm

abbrev pub AgreesAs : Side → FrameState → Has → Type 0
AgreesAs side f h = Agrees side f h.told h.count h.own h.left h.closed

-- what is owed may be heard
pub record OwedFine (side : Side) (f : FrameState) (h : Has) (owed : Owed) : Type 0 where
  pub goes : TakenGoes side f owed.before h.told h.count h.own h.left h.closed
  pub filled : FillsFine h.told owed.rid owed.pieces

abbrev pub OwesFine : Side → FrameState → Has → Option Owed → Type 0
OwesFine side f h None = AgreesAs side f h
OwesFine side f h (Some owed) = OwedFine side f h owed

-- ---- a message that is taken

pub left-with_pipe : (passing : Option Passing) (pipes : PipesState) → ((with_pipe passing pipes).left ≡ pipes.left) × ((with_pipe passing pipes).closed ≡ pipes.closed)
left-with_pipe None pipes = (refl, refl)
left-with_pipe (Some it) pipes = by (is_new_pipe it)
  where
    by : (b : Bool) → ((cond b (with_own it.rid pipes) pipes).left ≡ pipes.left) × ((cond b (with_own it.rid pipes) pipes).closed ≡ pipes.closed)
    by true = (refl, refl)
    by false = (refl, refl)

taken_fine : (side : Side) (f : FrameState) (tables : Tables) (shm : ShmState) (message : List ℕ) (handle : Option Handle) (segments : List ℕ) (done : Admission) (it : Plan)
    → SaneTables side tables shm → IsPlanned tables shm message handle done it → AgreesAs side f (has_with tables shm)
    → OwedFine side f (has_with it.tables it.shm) (owed_by it segments)
taken_fine side f tables shm message handle segments done it sane planned h =
    let passing : Option Passing = planned.passing in
    let tell : Option Tell = tell_in tables shm message done passing in
    let told : ToldSizes = after_tell tell shm.told in
    let deed : Deed = deed_of (own_way tables.handles.side) done.passed in
    let full : Plan = plan_with tables shm message handle done passing tell (seen_in tables message done) in
    let told_is : full.shm.told ≡ told = told-after_deed done.objects (object_of message) deed passing (record shm { told = told }) in
    let same = left-with_pipe passing tables.pipes in
    let goes = before_goes side f tables shm message handle done passing sane planned.has_rid planned.limited h in
    let T : ToldSizes → Type 0 = λ t. TakenGoes side f full.before t (length full.tables.handles.passed) full.tables.pipes.own tables.pipes.left tables.pipes.closed in
    let L : Rids → Type 0 = λ l. TakenGoes side f full.before full.shm.told (length full.tables.handles.passed) full.tables.pipes.own l tables.pipes.closed in
    let C : Rids → Type 0 = λ c. TakenGoes side f full.before full.shm.told (length full.tables.handles.passed) full.tables.pipes.own full.tables.pipes.left c in
    let F : ToldSizes → Type 0 = λ t. FillsFine t full.filling.file.rid (pieces_of full.filling.runs) in
    let P : Plan → Type 0 = λ p. OwedFine side f (has_with p.tables p.shm) (owed_by p segments) in
    subst P planned.is (record {
      goes = subst C (sym same.1) (subst L (sym same.0) (subst T (sym told_is) goes));
      filled = subst F (sym told_is) (fills_fit full.filling.file.rid told full.filling.runs (within_told done.objects (object_of message) deed passing (record shm { told = told })));
    })

-- ---- a frame that is heard

pub hearing_keeps : (tables : Tables) (taking : Taking) (frame : Frame) (shm : ShmState) → has_with (heard tables taking frame).tables shm ≡ has_with tables shm
hearing_keeps tables taking (Protocol bytes) shm = by (passage_of tables taking bytes)
  where
    by : (told : Result Passage FrameCause) → has_with (heard_messages tables taking told).tables shm ≡ has_with tables shm
    by (Ok after) = refl
    by (Err cause) = refl
hearing_keeps tables taking (PipeShutR rid) shm = refl
hearing_keeps tables taking (PipeShutW rid) shm = refl
hearing_keeps tables taking _ shm = refl

-- ---- frames that are made

group_goes : (side : Side) (f : FrameState) (h : Has) (owed : Owed) (copies : List CopyRecord) (frames : List Frame) → OwedFine side f h owed → IsGroup owed copies frames
    → (g : FrameState) × Goes side f frames g × AgreesAs side g h
group_goes side f h owed copies frames fine group =
    let bytes : List ℕ = words_bytes (words_in copies) in
    let g : FrameState = frames_left owed.before f in
    let P : List Frame → Type 0 = λ fs. Goes side f fs g in
    let S : ToldSizes → Type 0 = λ z. FillsFine z owed.rid owed.pieces in
    let before : Goes side f owed.before g = record { fine = fine.goes.fine; left = refl } in
    let fill : Goes side g (fills owed.rid owed.pieces bytes) g = fills_goes side g owed.rid owed.pieces bytes (subst S (sym fine.goes.agrees.sizes) fine.filled) in (
      g,
      subst P (sym group.is)
          (goes_append side f g g owed.before (fills owed.rid owed.pieces bytes ++ ending owed.shown) before
          (goes_append side g g g (fills owed.rid owed.pieces bytes) (ending owed.shown) fill (last owed.shown g))),
      fine.goes.agrees,
    )
  where
    last : (shown : Option (List ℕ)) (g : FrameState) → Goes side g (ending shown) g
    last None g = goes_none side g
    last (Some message) g = record { fine = (tt, tt); left = refl }

may_write_parts : (pipes : PipesState) (held : Rids) (rid : ℤ) → may_write pipes held rid ≡ true → (has_rid rid pipes.other ≡ true) × (has_rid rid pipes.closed ≡ false)
may_write_parts pipes held rid e =
    let first = and_parts (has_rid rid held) _ e in
    let second = and_parts (has_rid rid pipes.other) _ first.1 in
    (second.0, not-true _ second.1)

-- a pipe whose end is not closed here has not ended there
not_ended : (side : Side) (f : FrameState) (h : Has) (rid : ℤ) → AgreesAs side f h → has_rid rid h.closed ≡ false → has_rid rid f.ended ≡ false
not_ended side f h rid agrees apart = by (has_rid rid f.ended) refl
  where
    by : (b : Bool) → has_rid rid f.ended ≡ b → b ≡ false
    by false e = refl
    by true e = absurd (false≢true (sym apart ∙ agrees.ended rid e))

more_closed : (rid : ℤ) (less more : Rids) → ((r : ℤ) → has_rid r less ≡ true → has_rid r more ≡ true) → (r : ℤ) → has_rid r less ≡ true → has_rid r (with_rid rid more) ≡ true
more_closed rid less more h r e =
    ⊎_elim (λ put. put.1) (λ same. same ∙ h r e) (any_cases int_cmp_total exact_signed more rid r)

both_closed : (rid : ℤ) (less more : Rids) → ((r : ℤ) → has_rid r less ≡ true → has_rid r more ≡ true) → (r : ℤ) → has_rid r (with_rid rid less) ≡ true → has_rid r (with_rid rid more) ≡ true
both_closed rid less more h r e =
    ⊎_elim
    (λ put. ap (λ (q : ℤ). has_rid q (with_rid rid more)) put.0 ∙ any_put int_cmp_total exact_signed more rid)
    (λ same. more_closed rid less more h r (sym same ∙ e))
    (any_cases int_cmp_total exact_signed less rid r)

lone_goes : (side : Side) (s : LogState) (f : FrameState) (frame : Frame) → AgreesAs side f (has_of s) → is_lone s.tables s.taking frame ≡ true
    → (g : FrameState) × Goes side f (frame ∷ []) g × AgreesAs side g (has_of (after_lone s frame))
lone_goes side s f (Close reason) h e = (f, record { fine = (tt, tt); left = refl }, h)
lone_goes side s f (PipeTransfer rid bytes) h e =
    let may = may_write_parts s.tables.pipes s.taking.held rid (and_parts (may_write s.tables.pipes s.taking.held rid) _ e).0 in
    (f, record { fine = (not_ended side f (has_of s) rid h may.1, tt); left = refl }, h)
lone_goes side s f (PipeShutW rid) h e =
    let may = may_write_parts s.tables.pipes s.taking.held rid (and_parts (may_write s.tables.pipes s.taking.held rid) _ e).0 in (
      frame_left (PipeShutW rid) f,
      record { fine = (not_ended side f (has_of s) rid h may.1, tt); left = refl },
      record { sizes = h.sizes; given = h.given; kept = h.kept; opened = h.opened; ended = both_closed rid f.ended s.tables.pipes.closed h.ended; shut = h.shut },
    )
lone_goes side s f (PipeShutR rid) h e =
    let may = and_parts (has_rid rid s.tables.pipes.own) _ e in (
      frame_left (PipeShutR rid) f,
      record { fine = ((ap (has_rid rid) h.opened ∙ may.0, ap (has_rid rid) h.shut ∙ not-true _ may.1), tt); left = refl },
      record { sizes = h.sizes; given = h.given; kept = h.kept; opened = h.opened; ended = h.ended; shut = ap (with_rid rid) h.shut },
    )
lone_goes side s f _ h e = absurd (false≢true e)

made_goes : (side : Side) (s : LogState) (f : FrameState) (owes : Option Owed) (frames : List Frame) (copies : List CopyRecord) → OwesFine side f (has_of s) owes → MayMake s owes frames copies
    → (g : FrameState) × Goes side f frames g × AgreesAs side g (has_of (after_group s owes frames))
made_goes side s f (Some owed) frames copies h may = group_goes side f (has_of s) owed copies frames h may
made_goes side s f None [] copies h may = absurd may
made_goes side s f None (frame ∷ []) copies h may = lone_goes side s f frame h may.1.may
made_goes side s f None (frame ∷ next ∷ frames) copies h may = absurd may

-- ---- along a story

dropped_fine : (side : Side) (f : FrameState) (s : LogState) (owes : Option Owed) (rid : ℤ) → OwesFine side f (has_of s) owes → OwesFine side f (has_of (log_next s (Dropped rid))) owes
dropped_fine side f s None rid h =
    record { sizes = h.sizes; given = h.given; kept = h.kept; opened = h.opened; ended = more_closed rid f.ended s.tables.pipes.closed h.ended; shut = h.shut }
dropped_fine side f s (Some owed) rid h =
    let a = h.goes.agrees in
    record {
      goes = record {
        fine = h.goes.fine;
        agrees = record { sizes = a.sizes; given = a.given; kept = a.kept; opened = a.opened; ended = more_closed rid (frames_left owed.before f).ended s.tables.pipes.closed a.ended; shut = a.shut };
      };
      filled = h.filled;
    }

-- the frames of a story, and what they leave
pub record Writes (side : Side) (f : FrameState) (frames : List Frame) (h : Has) (owes : Option Owed) : Type 0 where
  pub fine : AllFine side f frames
  pub owed : OwesFine side (frames_left frames f) h owes

writes_from : (side : Side) (f : FrameState) (s : LogState) (story : List Mark) → Sound side s → OwesFine side f (has_of s) s.owes → Logs s story
    → Writes side f (made_in story) (has_of (log_after s story)) (log_after s story).owes
writes_from side f s [] sound h logs = record { fine = tt; owed = h }
writes_from side f s (Taken message handle segments ∷ story) sound h logs =
    let mark : Mark = Taken message handle segments in
    let p = passed s message handle segments logs.0 in
    let O : Option Owed → Type 0 = λ o. OwesFine side f (has_of s) o in
    let N : LogState → Type 0 = λ t. OwesFine side f (has_of t) t.owes in
    writes_from side f (log_next s mark) story (sound_next side s mark sound logs.0)
    (subst N (sym (after_taken s message handle segments p))
    (taken_fine side f s.tables s.shm message handle segments p.done p.it sound.tables p.is_planned (subst O logs.0.owes_none h))) logs.1
writes_from side f s (Heard frame ∷ story) sound h logs =
    let H : Has → Type 0 = λ x. OwesFine side f x s.owes in
    writes_from side f (log_next s (Heard frame)) story (sound_next side s (Heard frame) sound logs.0) (subst H (sym (hearing_keeps s.tables s.taking frame s.shm)) h) logs.1
writes_from side f s (Dropped rid ∷ story) sound h logs =
    writes_from side f (log_next s (Dropped rid)) story (sound_next side s (Dropped rid) sound logs.0) (dropped_fine side f s s.owes rid h) logs.1
writes_from side f s (Grouped frames copies ∷ story) sound h logs =
    let mark : Mark = Grouped frames copies in
    let made = made_goes side s f s.owes frames copies h logs.0 in
    let O : Option Owed → Type 0 = λ o. OwesFine side made.0 (has_of (log_next s mark)) o in
    let next = writes_from side made.0 (log_next s mark) story (sound_next side s mark sound logs.0) (subst O (sym (group_owes s s.owes frames refl)) made.2) logs.1 in
    let A : FrameState → Type 0 = λ g. AllFine side g (made_in story) in
    let L : FrameState → Type 0 = λ g. OwesFine side g (has_of (log_after (log_next s mark) story)) (log_after (log_next s mark) story).owes in
    record {
      fine = fine_append side f frames (made_in story) made.1.fine (subst A (sym made.1.left) next.fine);
      owed = subst L (sym (left-append frames (made_in story) f ∙ ap (frames_left (made_in story)) made.1.left)) next.owed;
    }

first_agrees : (side : Side) → AgreesAs side none_left (has_of (log_new side))
first_agrees side = record {
  sizes = refl;
  given = λ rid kind e. absurd cc;
  kept = λ place l. absurd (omega (arith, l));
  opened = refl;
  ended = λ rid e. e;
  shut = refl;
}

pub writes : (side : Side) (story : List Mark) → IsStory side story → Writes side none_left (made_in story) (has_of (now side story)) (now side story).owes
writes side story logs = writes_from side none_left (log_new side) story (sound_new side) (first_agrees side) logs
