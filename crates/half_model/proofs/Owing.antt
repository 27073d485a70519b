-- What is owed for a message that was taken: good frames before its blocks, few pieces that its file's segments cover, and a whole message.
use Rattle.std.proofs.Common.{◌≡◌, ℕ, ◌*◌, ◌<◌, ◌≤◌, Bool, true, false, cond, max, List, [], ◌∷◌, ◌++◌, length, ℤ, sum, flat_map, Option, Some, None, unwrap_or, ⊎_elim, refl, sym, ap, ◌∙◌, subst, arith, length-append}
use Rattle.std.proofs.lemmas.Bool.{cond_both, leb-true}
use Rattle.std.proofs.lemmas.Grind.{flat_map-append}
use Rattle.std.specs.BTreeMap.{is_at}
use Rattle.std.specs.List.{AllByRecursion}
use Rattle.std.specs.Ordering.{int_cmp}
use Rattle.std.specs.Option.{MatchOption, IfSome}
use Rattle.block_intervals.specs.declared.run.Run.{Run}
use Rattle.block_intervals.specs.Sets.{last_end}
use Rattle.surface_damage.specs.Filled.{blocks_of}
use Rattle.wp_outside.specs.declared.kinds.HandleKind.{HandleKind}
use Rattle.wp_outside.specs.declared.kinds.HandleKind.TheVariants.{File, PipeWrite}
use Rattle.wp_outside.specs.declared.kinds.Side.{Side}
use Rattle.wp_outside.specs.declared.kinds.Side.TheVariants.{Near, Far}
use Rattle.wl_wire.specs.Wire.{IsMessage, object_of}
use Rattle.wl_objects.specs.Registry.{ObjectsState, view}
use Rattle.wl_objects.specs.Tracking.{Admission}
use Rattle.wl_objects.proofs.WholeShown.{shown_is_whole}
use Rattle.handle_table.specs.declared.handles.Handle.{Handle}
use Rattle.handle_table.specs.Table.{most_handles}
use Rattle.transfer_frames.specs.declared.frame.Frame.{Frame}
use Rattle.transfer_frames.specs.declared.frame.Frame.TheVariants.{OpenFile, ExtendFile, OpenPipe, Inject, PipeTransfer, PipeShutW}
use Rattle.transfer_frames.specs.Numbers.{IsRid}
use Rattle.half_model.specs.declared.causes.PeerCause.TheVariants.{NoteMissing}
use Rattle.half_model.specs.declared.deeds.Deed.{Deed}
use Rattle.half_model.specs.declared.notes.CopyRecord.{CopyRecord}
use Rattle.half_model.specs.Deeds.{deed_of}
use Rattle.half_model.specs.Filling.{pieces_of, covers, words_bytes, fills, ending, Ascends}
use Rattle.half_model.specs.Group.{Owed, owed_by, IsGroup, frames_of, words_in, note_refusal}
use Rattle.half_model.specs.Planning.{Plan, ByCause, pipe_opened, is_new_pipe, size_frame, sized_by, injected, limit_refusal, seen_from, plan_with, tell_in, seen_in}
use Rattle.half_model.specs.Shm.{ShmState, Passing, Tell, tell_passed, told_at, grows, after_tell}
use Rattle.wl_tables.specs.Ways.{own_way}
use Rattle.mirror_pools.specs.Sizes.{ToldSizes, MOST_FILE, size_at}
use Rattle.half_model.specs.Story.{messages_of, messages_in}
use Rattle.half_model.specs.StoryLaws.{IsFit, filled_by}
use Rattle.half_model.specs.Tables.{Tables}
use Rattle.half_model.proofs.Copies.{copied_bytes}
use Rattle.half_model.proofs.Fillings.{IsWithin, within_told, nothing_filled, ends_last}
use Rattle.half_model.proofs.Frames.{GoOn, no_frames, on_append, open_frame, extend_frame, pipe_frame, inject_frame, ending_frames, fill_frames, length-fills, rid-rid_at}
use Rattle.half_model.proofs.Pieces.{AreShort, ascend_pieces, short_pieces, few_pieces}
use Rattle.half_model.proofs.Plans.{HasRid, IsPlanned}
use Rattle.half_model.proofs.Runs.{AreFew, last_end_by}
use Rattle.half_model.proofs.Sane.{IsGiven, told-after_deed, TellsAgain, tells_resized}
use Rattle.half_model.proofs.SaneSteps.{SaneTables, sane_planned}
use Rattle.half_model.proofs.Seats.{new_or_old}
use Rattle.half_model.proofs.Told.{AreSizes, within_limits}

-- the pipe of a frame that its writer makes
abbrev pub piped_by : Frame → List ℤ
piped_by (PipeTransfer rid bytes) = rid ∷ []
piped_by (PipeShutW rid) = rid ∷ []
piped_by frame = []

pub record OwedGood (owed : Owed) : Type 0 where
  pub before : GoOn owed.before
  pub few_before : length owed.before ≤ 3
  pub high : ℕ
  pub bound : high ≤ 1048576
  pub ascend : Ascends 0 owed.pieces high
  pub covered : 8 * high ≤ sum owed.segments
  pub short : AreShort owed.pieces
  pub few : length owed.pieces ≤ 1087
  pub rid : 0 < length owed.pieces → IsRid owed.rid
  pub shown : MatchOption owed.shown (Unit {0}) IsMessage
  pub unfilled : flat_map filled_by owed.before ≡ []
  pub unspoken : messages_in owed.before ≡ []
  pub unpiped : flat_map piped_by owed.before ≡ []

-- ---- the group of it

pub group_fits : (owed : Owed) (copies : List CopyRecord) (frames : List Frame) → OwedGood owed → IsGroup owed copies frames → IsFit (Some owed) frames
group_fits owed copies frames good group =
    let bytes : List ℕ = words_bytes (words_in copies) in
    let len = copied_bytes owed copies good.high good.ascend good.covered group.are_parts in
    let fill : GoOn (fills owed.rid owed.pieces bytes) =
    fill_frames owed.rid 0 good.high owed.pieces bytes good.bound good.ascend good.short good.rid len in
    let end : GoOn (ending owed.shown) = ending_frames owed.shown good.shown in
    let all : GoOn (frames_of owed bytes) = on_append owed.before _ good.before (on_append (fills owed.rid owed.pieces bytes) (ending owed.shown) fill end) in
    let count = length-append owed.before (fills owed.rid owed.pieces bytes ++ ending owed.shown) in
    let counts = length-append (fills owed.rid owed.pieces bytes) (ending owed.shown) in
    let pieces = length-fills owed.rid owed.pieces bytes in
    let last : length (ending owed.shown) ≤ 1 = one owed.shown in
    let P : List Frame → Type 0 = λ fs. IsFit (Some owed) fs in
    subst P (sym group.is) (record {
      short = omega (arith, count, counts, pieces, last, good.few_before, good.few);
      good = all.good;
      goes_on = λ some. all.goes_on;
    })
  where
    one : (shown : Option (List ℕ)) → length (ending shown) ≤ 1
    one None = omega arith
    one (Some message) = omega arith

-- ---- the frames before its blocks

record Few (frames : List Frame) : Type 0 where
  good : GoOn frames
  few : length frames ≤ 1

none_few : Few []
none_few = record { good = no_frames; few = omega arith }

pub given_rid : (side : Side) (passed : List Handle) (rid : ℤ) → length passed ≤ most_handles → IsGiven side passed rid → IsRid rid
given_rid side passed rid few h =
    let P : ℤ → Type 0 = λ r. IsRid r in
    subst P (sym h.2) (rid-rid_at side h.0 (omega (arith, few, h.1)))

-- the rid of a handle is one
abbrev HasGood : Option Passing → Type 0
HasGood None = Unit {0}
HasGood (Some it) = IsRid it.rid

passing_rid : (side : Side) (tables : Tables) (shm : ShmState) (handle : Option Handle) (passing : Option Passing) → SaneTables side tables shm
    → HasRid tables.handles handle passing → HasGood passing
passing_rid side tables shm None None h has = tt
passing_rid side tables shm None (Some it) h has = absurd has
passing_rid side tables shm (Some handle) None h has = tt
passing_rid side tables shm (Some handle) (Some it) h has =
    let P : ℤ → Type 0 = λ r. IsRid r in
    ⊎_elim
    (λ new. subst P (sym (ap (λ (p : Passing). p.rid) new.is)) (rid-rid_at tables.handles.side (length tables.handles.passed) new.room))
    (λ old. let few = h.1.few in subst P (sym (ap (λ (p : Passing). p.rid) old.is)) (rid-rid_at tables.handles.side old.place (omega (arith, few, old.within))))
    (new_or_old tables.handles handle it has)

few_pipe : (passing : Option Passing) → HasGood passing → Few (pipe_opened passing)
few_pipe None h = none_few
few_pipe (Some it) h =
    cond_both (is_new_pipe it) (OpenPipe it.rid ∷ []) [] Few
    (λ e. record { good = pipe_frame it.rid h; few = omega arith }) (λ e. none_few)

few_inject : (passing : Option Passing) → HasGood passing → Few (injected passing)
few_inject None h = none_few
few_inject (Some it) h = record { good = inject_frame it.rid h; few = omega arith }

abbrev TellGood : Option Tell → Type 0
TellGood None = Unit {0}
TellGood (Some tell) = IsRid tell.file.rid × (tell.size ≤ MOST_FILE)

few_size : (tell : Option Tell) (told : ToldSizes) → TellGood tell → Few (sized_by tell told)
few_size None told h = none_few
few_size (Some tell) told h =
    cond_both (grows tell told) (size_frame tell ∷ []) [] Few
    (λ e. cond_both tell.is_new (OpenFile tell.file.rid tell.size) (ExtendFile tell.file.rid tell.size) (λ frame. Few (frame ∷ []))
    (λ new. record { good = open_frame tell.file.rid tell.size h.0 (omega (arith, h.1)); few = omega arith })
    (λ old. record { good = extend_frame tell.file.rid tell.size h.0 (omega (arith, h.1)); few = omega arith }))
    (λ e. none_few)

-- ---- the size that it tells

tell_small : (tell : Tell) (told : ToldSizes) → max (told_at tell.file.rid told) tell.size ≤ MOST_FILE → tell.size ≤ MOST_FILE
tell_small tell told l = omega (arith, l)

passed_good : (kind : HandleKind) (deed : Deed) (it : Passing) (told : ToldSizes) → IsRid it.rid
    → ((tell : Tell) → tell_passed kind deed it ≡ Some tell → tell.size ≤ MOST_FILE) → TellGood (tell_passed kind deed it)
passed_good File deed it told h small = (h, small _ refl)
passed_good PipeWrite deed it told h small = tt

again_good : (side : Side) (passed : List Handle) (told : ToldSizes) (tell : Option Tell) → length passed ≤ most_handles
    → ((rid : ℤ) (size : ℕ) → size_at rid told ≡ Some size → IsGiven side passed rid) → TellsAgain told tell
    → ((it : Tell) → tell ≡ Some it → it.size ≤ MOST_FILE) → TellGood tell
again_good side passed told None few rids again small = tt
again_good side passed told (Some tell) few rids again small =
    let known = (again tell refl).1 in
    (given_rid side passed tell.file.rid few (rids tell.file.rid known.0 known.1), small tell refl)

tell_good : (side : Side) (tables : Tables) (shm : ShmState) (message : List ℕ) (handle : Option Handle) (done : Admission) (passing : Option Passing)
    → SaneTables side tables shm → HasGood passing → ((it : Tell) → tell_in tables shm message done passing ≡ Some it → it.size ≤ MOST_FILE)
    → TellGood (tell_in tables shm message done passing)
tell_good side tables shm message handle done None h has small =
    again_good side tables.handles.passed shm.told (tell_in tables shm message done None) h.1.few h.1.rids
    (tells_resized shm (object_of message) (deed_of (own_way tables.handles.side) done.passed) h.1.pools) small
tell_good side tables shm message handle done (Some it) h has small =
    passed_good it.handle.kind (deed_of (own_way tables.handles.side) done.passed) it shm.told has small

-- ---- neither bytes nor messages are in these frames

quiet_size : {X : Type 0} (f : Frame → List X) (told : ToldSizes) (tell : Option Tell) → ((rid : ℤ) (size : ℕ) → f (OpenFile rid size) ≡ []) → ((rid : ℤ) (size : ℕ) → f (ExtendFile rid size) ≡ [])
    → flat_map f (sized_by tell told) ≡ []
quiet_size f told None opens grows' = refl
quiet_size f told (Some tell) opens grows' =
    cond_both (grows tell told) (size_frame tell ∷ []) [] (λ frames. flat_map f frames ≡ [])
    (λ e. cond_both tell.is_new (OpenFile tell.file.rid tell.size) (ExtendFile tell.file.rid tell.size) (λ frame. flat_map f (frame ∷ []) ≡ [])
    (λ new. ap (λ (xs : List _). xs ++ []) (opens tell.file.rid tell.size))
    (λ old. ap (λ (xs : List _). xs ++ []) (grows' tell.file.rid tell.size)))
    (λ e. refl)

quiet_pipe : {X : Type 0} (f : Frame → List X) (passing : Option Passing) → ((rid : ℤ) → f (OpenPipe rid) ≡ []) → flat_map f (pipe_opened passing) ≡ []
quiet_pipe f None opens = refl
quiet_pipe f (Some it) opens =
    cond_both (is_new_pipe it) (OpenPipe it.rid ∷ []) [] (λ frames. flat_map f frames ≡ []) (λ e. ap (λ (xs : List _). xs ++ []) (opens it.rid)) (λ e. refl)

quiet_inject : {X : Type 0} (f : Frame → List X) (passing : Option Passing) → ((rids : List ℤ) → f (Inject rids) ≡ []) → flat_map f (injected passing) ≡ []
quiet_inject f None injects = refl
quiet_inject f (Some it) injects = ap (λ (xs : List _). xs ++ []) (injects (it.rid ∷ []))

quiet_before : {X : Type 0} (f : Frame → List X) (passing : Option Passing) (tell : Option Tell) (told : ToldSizes) (before : List Frame)
    → before ≡ pipe_opened passing ++ (sized_by tell told ++ injected passing)
    → ((rid : ℤ) (size : ℕ) → f (OpenFile rid size) ≡ []) → ((rid : ℤ) (size : ℕ) → f (ExtendFile rid size) ≡ [])
    → ((rid : ℤ) → f (OpenPipe rid) ≡ []) → ((rids : List ℤ) → f (Inject rids) ≡ [])
    → flat_map f before ≡ []
quiet_before f passing tell told before is opens grows' pipes injects =
    ap (flat_map f) is
    ∙ flat_map-append f (pipe_opened passing) (sized_by tell told ++ injected passing)
    ∙ ap (λ (xs : List _). xs ++ flat_map f (sized_by tell told ++ injected passing)) (quiet_pipe f passing pipes)
    ∙ flat_map-append f (sized_by tell told) (injected passing)
    ∙ ap (λ (xs : List _). xs ++ flat_map f (injected passing)) (quiet_size f told tell opens grows')
    ∙ quiet_inject f passing injects

-- ---- the message as it is shown

whole_if : (shown : Option (List ℕ)) → IfSome shown IsMessage → MatchOption shown (Unit {0}) IsMessage
whole_if None h = tt
whole_if (Some message) h = h

whole_shown : (side : Side) (objects : ObjectsState) (message : List ℕ) → IsMessage message → MatchOption (seen_from side objects message).shown (Unit {0}) IsMessage
whole_shown Near objects message h = h
whole_shown Far objects message h = whole_if (view objects message).shown (shown_is_whole objects message h)

-- ---- the blocks

covered_by : (b : Bool) → cond b None (Some (ByCause NoteMissing)) ≡ None → b ≡ true
covered_by true e = refl
covered_by false e = absurd cc

told_bound : (rid : ℤ) (told : ToldSizes) → AllByRecursion (λ one. one.1 ≤ MOST_FILE) told → told_at rid told ≤ MOST_FILE
told_bound rid [] h = omega arith
told_bound rid (one ∷ others) h =
    cond_both (is_at (int_cmp rid) one.0) (Some one.1) (size_at rid others) (λ size. unwrap_or size 0 ≤ MOST_FILE) (λ e. h.0) (λ e. told_bound rid others h.1)

blocks_bound : (told : ToldSizes) (rid : ℤ) → AreSizes told → blocks_of (told_at rid told) ≤ 1048576
blocks_bound told rid h = let l = told_bound rid told h.each in omega (arith, l)

filled_rid : (side : Side) (passed : List Handle) (told : ToldSizes) (rid : ℤ) (runs : List Run) → length passed ≤ most_handles
    → ((r : ℤ) (size : ℕ) → size_at r told ≡ Some size → IsGiven side passed r)
    → AreFew runs (blocks_of (told_at rid told)) → 0 < length (pieces_of runs) → IsRid rid
filled_rid side passed told rid runs few rids within some = go (size_at rid told) refl
  where
    go : (size : Option ℕ) → size_at rid told ≡ size → IsRid rid
    go (Some size) e = given_rid side passed rid few (rids rid size e)
    go None e =
        let zero : told_at rid told ≡ 0 = ap (λ (o : Option ℕ). unwrap_or o 0) e in
        let none = nothing_filled runs (blocks_of (told_at rid told)) (omega (arith, zero)) within in
        let len : length (pieces_of runs) ≡ 0 = ap length none in
        absurd (omega (arith, some, len))

-- ---- all of it

owed_with : (side : Side) (tables : Tables) (shm : ShmState) (message : List ℕ) (handle : Option Handle) (done : Admission) (passing : Option Passing) (told : ToldSizes) (it : Plan) (segments : List ℕ)
    → SaneTables side it.tables it.shm
    → it.shm.told ≡ told
    → HasGood passing
    → TellGood (tell_in tables shm message done passing)
    → it.before ≡ pipe_opened passing ++ (sized_by (tell_in tables shm message done passing) shm.told ++ injected passing)
    → IsWithin told it.filling
    → MatchOption it.shown (Unit {0}) IsMessage
    → covers it.filling.runs segments ≡ true
    → OwedGood (owed_by it segments)
owed_with side tables shm message handle done passing told it segments after told_is has tell before within shown cover =
    let runs : List Run = it.filling.runs in
    let W : ToldSizes → Type 0 = λ t. AreFew runs (blocks_of (told_at it.filling.file.rid t)) in
    let few : AreFew runs (blocks_of (told_at it.filling.file.rid it.shm.told)) = subst W (sym told_is) within in
    let bound = blocks_bound it.shm.told it.filling.file.rid after.1.sizes in
    let last = last_end_by 0 (blocks_of (told_at it.filling.file.rid it.shm.told)) runs (omega arith) few.end in
    let pipe = few_pipe passing has in
    let size = few_size (tell_in tables shm message done passing) shm.told tell in
    let inject = few_inject passing has in
    let both = length-append (sized_by (tell_in tables shm message done passing) shm.told) (injected passing) in
    let all = length-append (pipe_opened passing) (sized_by (tell_in tables shm message done passing) shm.told ++ injected passing) in
    let len = ap length before in
    let B : List Frame → Type 0 = λ fs. GoOn fs in
    record {
      before = subst B (sym before) (on_append (pipe_opened passing) _ pipe.good (on_append (sized_by (tell_in tables shm message done passing) shm.told) (injected passing) size.good inject.good));
      few_before = omega (arith, pipe.few, size.few, inject.few, both, all, len);
      high = last_end 0 runs;
      bound = omega (arith, bound, last);
      ascend = ascend_pieces (last_end 0 runs) runs few.rise (ends_last runs few.rise);
      covered = leb-true (8 * last_end 0 runs) (sum segments) cover;
      short = short_pieces runs few.rise;
      few = few_pieces (blocks_of (told_at it.filling.file.rid it.shm.told)) runs bound few;
      rid = filled_rid side it.tables.handles.passed it.shm.told it.filling.file.rid runs after.1.few after.1.rids few;
      shown = shown;
      unfilled = quiet_before filled_by passing (tell_in tables shm message done passing) shm.told it.before before (λ r n. refl) (λ r n. refl) (λ r. refl) (λ rs. refl);
      unspoken = quiet_before messages_of passing (tell_in tables shm message done passing) shm.told it.before before (λ r n. refl) (λ r n. refl) (λ r. refl) (λ rs. refl);
      unpiped = quiet_before piped_by passing (tell_in tables shm message done passing) shm.told it.before before (λ r n. refl) (λ r n. refl) (λ r. refl) (λ rs. refl);
    }

pub owed_good : (side : Side) (tables : Tables) (shm : ShmState) (message : List ℕ) (handle : Option Handle) (done : Admission) (it : Plan) (segments : List ℕ)
    → SaneTables side tables shm → IsPlanned tables shm message handle done it → IsMessage message → note_refusal it segments ≡ None
    → OwedGood (owed_by it segments)
owed_good side tables shm message handle done it segments h planned whole note =
    let passing : Option Passing = planned.passing in
    let tell : Option Tell = tell_in tables shm message done passing in
    let told : ToldSizes = after_tell tell shm.told in
    let deed : Deed = deed_of (own_way tables.handles.side) done.passed in
    let has : HasGood passing = passing_rid side tables shm handle passing h planned.has_rid in
    let small : (t : Tell) → tell ≡ Some t → t.size ≤ MOST_FILE =
    λ t e. tell_small t shm.told (within_limits t shm.told (ap (λ (o : Option Tell). limit_refusal o shm.told) (sym e) ∙ planned.limited)).0 in
    let goes : (p : Plan) → plan_with tables shm message handle done passing tell (seen_in tables message done) ≡ p → SaneTables side p.tables p.shm
    → covers p.filling.runs segments ≡ true → OwedGood (owed_by p segments) =
    λ p is after cover.
    let W : Plan → Type 0 = λ q. IsWithin told q.filling in
    let S : Plan → Type 0 = λ q. MatchOption q.shown (Unit {0}) IsMessage in
    owed_with side tables shm message handle done passing told p segments after
    (ap (λ (q : Plan). q.shm.told) (sym is) ∙ told-after_deed done.objects (object_of message) deed passing (record shm { told = told }))
    has (tell_good side tables shm message handle done passing h has small)
    (ap (λ (q : Plan). q.before) (sym is))
    (subst W is (within_told done.objects (object_of message) deed passing (record shm { told = told })))
    (subst S is (whole_shown tables.handles.side (record { tracked = done.objects; hidden = tables.objects.hidden }) message whole))
    cover in
    goes it planned.is (sane_planned side tables shm message handle done it h planned) (covered_by (covers it.filling.runs segments) note)
