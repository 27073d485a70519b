-- The frames that open files and pipes do so in the order in which the handles were first passed.
use Rattle.std.proofs.Common.{◌≡◌, ℕ, zero, suc, ◌+◌, true, false, ◌&&◌, List, [], ◌∷◌, ◌++◌, length, map, filter_map, ℤ, Option, Some, None, ⊎_elim, refl, sym, ap, ◌∙◌, subst, arith, length-append, append-nil}
use Rattle.std.proofs.Math.Dec.{ltb}
use Rattle.std.proofs.lemmas.Bool.{cond_both, cond-true, cond-false, or_left, and_right, false≢true}
use Rattle.std.proofs.lemmas.List.Elements.{filter_map-append}
use Rattle.std.specs.List.{cons_option}
use Rattle.block_intervals.specs.declared.run.Run.{Run}
use Rattle.block_intervals.specs.Statements.{counted}
use Rattle.wp_outside.specs.declared.kinds.HandleKind.{HandleKind}
use Rattle.wp_outside.specs.declared.kinds.HandleKind.TheVariants.{File, PipeWrite}
use Rattle.wp_outside.specs.declared.kinds.Side.{Side}
use Rattle.wl_wire.specs.Wire.{object_of}
use Rattle.wl_objects.specs.Tracking.{Admission}
use Rattle.handle_table.specs.declared.handles.Handle.{Handle}
use Rattle.handle_table.specs.Table.{Table, rid_at, is_kind}
use Rattle.transfer_frames.specs.declared.frame.Frame.{Frame}
use Rattle.transfer_frames.specs.declared.frame.Frame.TheVariants.{OpenFile, ExtendFile, OpenPipe, PipeTransfer, PipeShutR, PipeShutW, Close}
use Rattle.half_model.specs.declared.deeds.Deed.{Deed}
use Rattle.half_model.specs.declared.notes.CopyRecord.{CopyRecord}
use Rattle.half_model.specs.Content.{Taking}
use Rattle.half_model.specs.Deeds.{deed_of}
use Rattle.half_model.specs.Filling.{words_bytes, fills, ending}
use Rattle.half_model.specs.Group.{Owed, IsGroup, words_in}
use Rattle.half_model.specs.Log.{Mark, Taken, Heard, Grouped, Dropped, LogState, log_new, MayTake, is_lone, MayMake, after_lone, after_group, log_next, Logs}
use Rattle.half_model.specs.Planning.{Plan, pipe_opened, is_new_pipe, size_frame, sized_by, injected, plan_with, tell_in, seen_in}
use Rattle.half_model.specs.Shm.{ShmState, Passing, Tell, tell_passed, told_at, grows}
use Rattle.wl_tables.specs.Ways.{own_way}
use Rattle.mirror_pools.specs.Sizes.{ToldSizes}
use Rattle.half_model.specs.Story.{made_in}
use Rattle.half_model.specs.StoryLaws.{opened_by, OpensInOrder}
use Rattle.half_model.specs.Tables.{Tables}
use Rattle.half_model.proofs.Plans.{HasRid}
use Rattle.half_model.proofs.Sane.{TellsAgain, tells_resized}
use Rattle.half_model.proofs.SaneSteps.{SaneTables, tells_old}
use Rattle.half_model.proofs.Seats.{new_or_old}
use Rattle.half_model.proofs.Sound.{Sound, passed, after_taken, hearing_stays, sound_next, sound_new}
use Rattle.half_model.proofs.Told.{Told}

-- the rids of so many places from one on
abbrev rids_from : Side → ℕ → ℕ → List ℤ
rids_from side base count = map (rid_at side) (counted base count)

rids_append : (side : Side) (base a b : ℕ) → rids_from side base a ++ rids_from side (base + a) b ≡ rids_from side base (a + b)
rids_append side base zero b =
    let at : base + 0 ≡ base = omega arith in
    let all : 0 + b ≡ b = omega arith in
    ap (λ (n : ℕ). rids_from side n b) at ∙ ap (λ (n : ℕ). rids_from side base n) (sym all)
rids_append side base (suc a) b =
    let at : base + suc a ≡ (base + 1) + a = omega arith in
    let all : suc a + b ≡ suc (a + b) = omega arith in
    ap (λ (n : ℕ). rid_at side base ∷ (rids_from side (base + 1) a ++ rids_from side n b)) at
    ∙ ap (λ (rs : List ℤ). rid_at side base ∷ rs) (rids_append side (base + 1) a b)
    ∙ ap (λ (n : ℕ). rids_from side base n) (sym all)

-- the rids that frames open
abbrev opens : List Frame → List ℤ
opens frames = filter_map opened_by frames

opens-append : (xs ys : List Frame) → opens (xs ++ ys) ≡ opens xs ++ opens ys
opens-append xs ys = filter_map-append opened_by xs ys

-- ---- the frames before the blocks of a message

opens_again : (told : ToldSizes) (tell : Option Tell) → TellsAgain told tell → opens (sized_by tell told) ≡ []
opens_again told None again = refl
opens_again told (Some tell) again =
    cond_both (grows tell told) (size_frame tell ∷ []) [] (λ frames. opens frames ≡ [])
    (λ e. ap (λ (frame : Frame). opens (frame ∷ [])) (cond-false tell.is_new (OpenFile tell.file.rid tell.size) (ExtendFile tell.file.rid tell.size) (again tell refl).0))
    (λ e. refl)

opens_old_pipe : (it : Passing) → it.is_new ≡ false → opens (pipe_opened (Some it)) ≡ []
opens_old_pipe it old = ap opens (cond-false (is_new_pipe it) (OpenPipe it.rid ∷ []) [] (and_right (is_kind it.handle.kind PipeWrite) it.is_new old))

opens_new : (kind : HandleKind) (deed : Deed) (it : Passing) (told : ToldSizes) → it.handle.kind ≡ kind → it.is_new ≡ true
    → opens (pipe_opened (Some it)) ++ opens (sized_by (tell_passed kind deed it) told) ≡ it.rid ∷ []
opens_new File deed it told is new =
    let no_pipe : is_new_pipe it ≡ false = ap (λ (k : HandleKind). is_kind k PipeWrite && it.is_new) is in
    let more = or_left it.is_new (ltb (told_at it.rid told) _) new in
    ap (λ (frames : List Frame). opens frames ++ opens (sized_by (tell_passed File deed it) told)) (cond-false (is_new_pipe it) (OpenPipe it.rid ∷ []) [] no_pipe)
    ∙ ap opens (cond-true _ _ [] more)
    ∙ ap (λ (frame : Frame). opens (frame ∷ [])) (cond-true it.is_new _ _ new)
opens_new PipeWrite deed it told is new =
    let pipe : is_new_pipe it ≡ true = ap (λ (k : HandleKind). is_kind k PipeWrite && it.is_new) is ∙ new in
    ap (λ (frames : List Frame). opens frames ++ []) (cond-true (is_new_pipe it) (OpenPipe it.rid ∷ []) [] pipe)

-- what a message opens: the rid of its handle where that is new, else nothing
record OpensNext (side : Side) (old new : List Handle) (before : List Frame) : Type 0 where
  count : ℕ
  is : opens before ≡ rids_from side (length old) count
  more : length old + count ≡ length new

opens_before : (passing : Option Passing) (tell : Option Tell) (told : ToldSizes)
    → opens (pipe_opened passing ++ (sized_by tell told ++ injected passing)) ≡ opens (pipe_opened passing) ++ opens (sized_by tell told)
opens_before passing tell told =
    opens-append (pipe_opened passing) (sized_by tell told ++ injected passing)
    ∙ ap (λ (rs : List ℤ). opens (pipe_opened passing) ++ rs) (opens-append (sized_by tell told) (injected passing) ∙ ap (λ (rs : List ℤ). opens (sized_by tell told) ++ rs) (none passing) ∙ append-nil (opens (sized_by tell told)))
  where
    none : (p : Option Passing) → opens (injected p) ≡ []
    none None = refl
    none (Some it) = refl

opens_with : (side : Side) (tables : Tables) (shm : ShmState) (message : List ℕ) (handle : Option Handle) (done : Admission) (passing : Option Passing)
    → SaneTables side tables shm → HasRid tables.handles handle passing
    → OpensNext side tables.handles.passed (plan_with tables shm message handle done passing (tell_in tables shm message done passing) (seen_in tables message done)).tables.handles.passed
    (plan_with tables shm message handle done passing (tell_in tables shm message done passing) (seen_in tables message done)).before
opens_with side tables shm message None done None h has = record {
  count = 0;
  is = opens_before None (tell_in tables shm message done None) shm.told
      ∙ opens_again shm.told (tell_in tables shm message done None) (tells_resized shm (object_of message) (deed_of (own_way tables.handles.side) done.passed) h.1.pools);
  more = omega arith;
}
opens_with side tables shm message None done (Some it) h has = absurd has
opens_with side tables shm message (Some handle) done None h has = absurd has
opens_with side tables shm message (Some handle) done (Some it) h has =
    let deed : Deed = deed_of (own_way tables.handles.side) done.passed in
    let tell : Option Tell = tell_in tables shm message done (Some it) in
    let all = opens_before (Some it) tell shm.told in
    ⊎_elim
    (λ new.
    let rid_is : it.rid ≡ rid_at side (length tables.handles.passed) = ap (λ (p : Passing). p.rid) new.is ∙ ap (λ (sd : Side). rid_at sd (length tables.handles.passed)) h.0 in
    let last = length-append tables.handles.passed (handle ∷ []) in
    let len = ap length new.after in
    record {
      count = 1;
      is = all ∙ opens_new it.handle.kind deed it shm.told refl (ap (λ (p : Passing). p.is_new) new.is) ∙ ap (λ (r : ℤ). r ∷ []) rid_is;
      more = omega (arith, last, len);
    })
    (λ old.
    let handle_is : it.handle ≡ handle = ap (λ (p : Passing). p.handle) old.is in
    let rid_is : it.rid ≡ rid_at side old.place = ap (λ (p : Passing). p.rid) old.is ∙ ap (λ (sd : Side). rid_at sd old.place) h.0 in
    let new_is : it.is_new ≡ false = ap (λ (p : Passing). p.is_new) old.is in
    let told : it.handle.kind ≡ File → Told shm.told it.rid =
    λ kind. let P : ℤ → Type 0 = λ r. Told shm.told r in
    subst P (sym rid_is) (h.1.files old.place old.known old.at (old.same ∙ ap (λ (x : Handle). x.kind) (sym handle_is) ∙ kind)) in
    let len = ap length old.after in
    record {
      count = 0;
      is = all ∙ ap (λ (rs : List ℤ). rs ++ opens (sized_by tell shm.told)) (opens_old_pipe it new_is) ∙ opens_again shm.told tell (tells_old it.handle.kind deed it shm.told new_is told);
      more = omega (arith, len);
    })
    (new_or_old tables.handles handle it has)

-- ---- a group

fills_open_none : (rid : ℤ) (pieces : List Run) (bytes : List ℕ) → opens (fills rid pieces bytes) ≡ []
fills_open_none rid [] bytes = refl
fills_open_none rid (piece ∷ pieces) bytes = fills_open_none rid pieces _

ending_opens_none : (shown : Option (List ℕ)) → opens (ending shown) ≡ []
ending_opens_none None = refl
ending_opens_none (Some message) = refl

group_opens : (owed : Owed) (copies : List CopyRecord) (frames : List Frame) → IsGroup owed copies frames → opens frames ≡ opens owed.before
group_opens owed copies frames group =
    let bytes : List ℕ = words_bytes (words_in copies) in
    ap opens group.is
    ∙ opens-append owed.before (fills owed.rid owed.pieces bytes ++ ending owed.shown)
    ∙ ap (λ (rs : List ℤ). opens owed.before ++ rs)
    (opens-append (fills owed.rid owed.pieces bytes) (ending owed.shown)
    ∙ ap (λ (rs : List ℤ). rs ++ opens (ending owed.shown)) (fills_open_none owed.rid owed.pieces bytes)
    ∙ ending_opens_none owed.shown)
    ∙ append-nil (opens owed.before)

lone_opens_none : (tables : Tables) (taking : Taking) (frame : Frame) → is_lone tables taking frame ≡ true → opened_by frame ≡ None
lone_opens_none tables taking (Close reason) e = refl
lone_opens_none tables taking (PipeTransfer rid bytes) e = refl
lone_opens_none tables taking (PipeShutR rid) e = refl
lone_opens_none tables taking (PipeShutW rid) e = refl
lone_opens_none tables taking _ e = absurd (false≢true e)

-- ---- along a story

-- the rids that are owed
abbrev owed_opens : Option Owed → List ℤ
owed_opens None = []
owed_opens (Some owed) = opens owed.before

-- all rids from `base` on are owed
record OwesFrom (side : Side) (s : LogState) (base : ℕ) : Type 0 where
  count : ℕ
  is : owed_opens s.owes ≡ rids_from side base count
  all : base + count ≡ length s.tables.handles.passed

made_opens : (s : LogState) (owes : Option Owed) (frames : List Frame) (copies : List CopyRecord) → MayMake s owes frames copies → opens frames ≡ owed_opens owes
made_opens s (Some owed) frames copies may = group_opens owed copies frames may
made_opens s None [] copies may = absurd may
made_opens s None (frame ∷ []) copies may = ap (λ (o : Option ℤ). cons_option o []) (lone_opens_none s.tables s.taking frame may.1.may)
made_opens s None (frame ∷ next ∷ frames) copies may = absurd may

lone_leaves : (s : LogState) (frame : Frame) → ((after_lone s frame).owes ≡ s.owes) × ((after_lone s frame).tables.handles ≡ s.tables.handles)
lone_leaves s (Close reason) = (refl, refl)
lone_leaves s _ = (refl, refl)

group_leaves : (s : LogState) (owes : Option Owed) (frames : List Frame) → s.owes ≡ owes
    → ((after_group s owes frames).owes ≡ None) × ((after_group s owes frames).tables.handles ≡ s.tables.handles)
group_leaves s (Some owed) frames e = (refl, refl)
group_leaves s None [] e = (e, refl)
group_leaves s None (frame ∷ []) e = ((lone_leaves s frame).0 ∙ e, (lone_leaves s frame).1)
group_leaves s None (frame ∷ next ∷ frames) e = (e, refl)

no_rids : (side : Side) (base count : ℕ) → [] ≡ rids_from side base count → count ≡ 0
no_rids side base zero e = refl
no_rids side base (suc count) e = absurd cc

owes_taken : (side : Side) (s : LogState) (message : List ℕ) (handle : Option Handle) (segments : List ℕ) (base : ℕ)
    → Sound side s → MayTake s message handle segments → OwesFrom side s base → OwesFrom side (log_next s (Taken message handle segments)) base
owes_taken side s message handle segments base h may from =
    let p = passed s message handle segments may in
    let none : from.count ≡ 0 = no_rids side base from.count (ap owed_opens (sym may.owes_none) ∙ from.is) in
    let planned = p.is_planned in
    let N : Plan → Type 0 = λ it. OpensNext side s.tables.handles.passed it.tables.handles.passed it.before in
    let next : OpensNext side s.tables.handles.passed p.it.tables.handles.passed p.it.before =
    subst N planned.is (opens_with side s.tables s.shm message handle p.done planned.passing h.tables planned.has_rid) in
    let base_is : length s.tables.handles.passed ≡ base = omega (arith, from.all, none) in
    let P : LogState → Type 0 = λ t. OwesFrom side t base in
    subst P (sym (after_taken s message handle segments p)) (record {
      count = next.count;
      is = next.is ∙ ap (λ (n : ℕ). rids_from side n next.count) base_is;
      all = omega (arith, next.more, base_is);
    })

opens_from : (side : Side) (s : LogState) (story : List Mark) (base : ℕ) → Sound side s → OwesFrom side s base → Logs s story
    → (count : ℕ) × (opens (made_in story) ≡ rids_from side base count)
opens_from side s [] base h from logs = (0, refl)
opens_from side s (Taken message handle segments ∷ story) base h from logs =
    opens_from side (log_next s (Taken message handle segments)) story base (sound_next side s (Taken message handle segments) h logs.0) (owes_taken side s message handle segments base h logs.0 from) logs.1
opens_from side s (Heard frame ∷ story) base h from logs =
    let stay = (hearing_stays s.tables s.taking frame logs.0.is_frame).passed_is in
    opens_from side (log_next s (Heard frame)) story base (sound_next side s (Heard frame) h logs.0)
    (record { count = from.count; is = from.is; all = from.all ∙ ap length (sym stay) }) logs.1
opens_from side s (Dropped rid ∷ story) base h from logs =
    opens_from side (log_next s (Dropped rid)) story base (sound_next side s (Dropped rid) h logs.0) (record { count = from.count; is = from.is; all = from.all }) logs.1
opens_from side s (Grouped frames copies ∷ story) base h from logs =
    let leaves = group_leaves s s.owes frames refl in
    let all : length s.tables.handles.passed ≡ length (after_group s s.owes frames).tables.handles.passed = ap (λ (t : Table). length t.passed) (sym leaves.1) in
    let rest = opens_from side (log_next s (Grouped frames copies)) story (base + from.count) (sound_next side s (Grouped frames copies) h logs.0)
    (record { count = 0; is = ap owed_opens leaves.0; all = omega (arith, from.all, all) }) logs.1 in (
      from.count + rest.0,
      opens-append frames (made_in story)
          ∙ ap (λ (rs : List ℤ). rs ++ opens (made_in story)) (made_opens s s.owes frames copies logs.0 ∙ from.is)
          ∙ ap (λ (rs : List ℤ). rids_from side base from.count ++ rs) rest.1
          ∙ rids_append side base from.count rest.0,
    )

pub opens_in_order : OpensInOrder
opens_in_order side story logs =
    opens_from side (log_new side) story 0 (sound_new side) (record { count = 0; is = refl; all = omega arith }) logs
