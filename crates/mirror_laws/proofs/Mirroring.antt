-- Along a story each mirror is as long as the told size of its file; where a message is owed it comes to that behind the frames before the message's blocks.
--
-- The proof goes rid by rid, since what a frame does to one mirror asks for nothing of the others. Its invariant (`Mirrored`) has two cases. Where nothing is owed, the mirror has the told size, rounded up, and is not there where no size was told. Where a message is owed, the told sizes are already those with this message, and the mirror still is as before it; so the invariant says what the frames before the blocks (`owed.before`) will do: they bring the mirror to the told size, with zeros behind what it had (`Grown`). It also keeps two facts of what is owed, which hold for all rids: the pieces ascend and end within the told size of their file, and none of the frames before the blocks has a message.
--
-- A message that is taken may tell one size. Of a new file none was told before, so there is no mirror yet and OPEN makes one; a file that grows was told a smaller size, so EXTEND adds zeros alone (Telling). A group is then these frames, a FILL for each piece, and the message. By recursion over the pieces, each FILL brings its bytes, and leaves what lies before it as it is; the pieces ascend, so no later one touches it (Filling). Both together are what the law says of the mirror of the file (`own_filled`) and of all others (`other_filled`), and give the first case of the invariant again. Frames of pipes and CLOSE touch no mirror.
--
-- What stands before the message in a group is just those frames, since none of them has a message itself (Fronts). The words of the copies are the bytes of the pieces in order. Cut at the pieces and then at the segments, they give each word its copy and its place (Places, Words).
use Rattle.std.proofs.Common.{◌≡◌, ℕ, ◌*◌, Bool, true, false, List, [], ◌∷◌, ◌++◌, length, ℤ, Option, Some, None, refl, sym, ap, ◌∙◌, subst, ⊎_elim}
use Rattle.std.proofs.lemmas.Bool.{cond_both, false≢true, cases_Bool}
use Rattle.std.proofs.lemmas.Bool.Decides.{Decides-int_eq}
use Rattle.std.specs.List.{AllByRecursion}
use Rattle.std.specs.Ordering.{int_eq}
use Rattle.surface_damage.specs.Filled.{blocks_of}
use Rattle.wp_outside.specs.declared.kinds.Side.{Side}
use Rattle.wl_wire.specs.Wire.{object_of}
use Rattle.wl_objects.specs.Tracking.{Admission}
use Rattle.handle_table.specs.declared.handles.Handle.{Handle}
use Rattle.transfer_frames.specs.declared.frame.Frame.{Frame}
use Rattle.transfer_frames.specs.declared.frame.Frame.TheVariants.{Protocol, OpenFile, ExtendFile, OpenPipe, PipeTransfer, PipeShutR, PipeShutW, Close}
use Rattle.half_model.specs.declared.deeds.Deed.{Deed}
use Rattle.half_model.specs.declared.notes.CopyRecord.{CopyRecord}
use Rattle.half_model.specs.Content.{Taking}
use Rattle.half_model.specs.Deeds.{deed_of}
use Rattle.half_model.specs.Filling.{Ascends, words_bytes, fills, ending}
use Rattle.half_model.specs.Group.{Owed, owed_by, IsGroup, words_in}
use Rattle.half_model.specs.Log.{Mark, Taken, Heard, Grouped, Dropped, LogState, log_new, is_lone, MayTake, MayMake, Lawful, after_lone, after_group, log_next, Logs, log_after}
use Rattle.mirror_pools.specs.Meaning.{mirror_step, mirror_from, mirror}
use Rattle.half_model.specs.Planning.{Plan, pipe_opened, is_new_pipe, size_frame, sized_by, injected, tell_in}
use Rattle.half_model.specs.Shm.{ShmState, Passing, Tell, told_at, grows, after_tell}
use Rattle.wl_tables.specs.Ways.{own_way}
use Rattle.mirror_pools.specs.Sizes.{ToldSizes, size_at}
use Rattle.half_model.specs.Story.{made_by, made_in}
use Rattle.half_model.specs.StoryLaws.{now, IsStory}
use Rattle.half_model.specs.Tables.{Tables}
use Rattle.half_model.proofs.Fillings.{IsWithin, within_told}
use Rattle.half_model.proofs.Frames.{all_append}
use Rattle.half_model.proofs.Pieces.{blocks_in, ascend_pieces}
use Rattle.half_model.proofs.Plans.{IsPlanned}
use Rattle.half_model.proofs.Sane.{told-after_deed}
use Rattle.half_model.proofs.SaneSteps.{SaneTables}
use Rattle.half_model.proofs.Sound.{Sound, passed, after_taken, sound_next, sound_new}
use Rattle.mirror_laws.specs.MirrorLaws.{Fills}
use Rattle.mirror_laws.proofs.Copying.{copied}
use Rattle.mirror_laws.proofs.Filling.{mirror-append}
use Rattle.mirror_laws.proofs.Growing.{Sized, Grown, fills_grown, others_grown, sized_filled}
use Rattle.mirror_laws.proofs.Telling.{grown_before, tell_fits}

-- whether a frame has messages
abbrev pub speaks : Frame → Bool
speaks (Protocol bytes) = true
speaks frame = false

abbrev pub AreSilent : List Frame → Type 0
AreSilent frames = AllByRecursion (λ frame. speaks frame ≡ false) frames

-- what is owed, where the mirror of this rid is such before its group
pub record OwedMirror (rid : ℤ) (told : ToldSizes) (owed : Owed) (m : Option (List ℕ)) : Type 0 where
  pub grown : Grown (size_at rid told) m (mirror_from rid owed.before m)
  pub within : Ascends 0 owed.pieces (blocks_of (told_at owed.rid told))
  pub silent : AreSilent owed.before

abbrev pub Mirrored : ℤ → ToldSizes → Option Owed → Option (List ℕ) → Type 0
Mirrored rid told None m = Sized (size_at rid told) m
Mirrored rid told (Some owed) m = OwedMirror rid told owed m

-- ---- a message is taken

silent_pipe : (passing : Option Passing) → AreSilent (pipe_opened passing)
silent_pipe None = tt
silent_pipe (Some it) = cond_both (is_new_pipe it) (OpenPipe it.rid ∷ []) [] AreSilent (λ e. (refl, tt)) (λ e. tt)

silent_size : (tell : Option Tell) (told : ToldSizes) → AreSilent (sized_by tell told)
silent_size None told = tt
silent_size (Some tell) told =
    cond_both (grows tell told) (size_frame tell ∷ []) [] AreSilent
    (λ e. cond_both tell.is_new (OpenFile tell.file.rid tell.size) (ExtendFile tell.file.rid tell.size) (λ frame. AreSilent (frame ∷ [])) (λ new. (refl, tt)) (λ old. (refl, tt)))
    (λ e. tt)

silent_inject : (passing : Option Passing) → AreSilent (injected passing)
silent_inject None = tt
silent_inject (Some it) = (refl, tt)

silent_before : (passing : Option Passing) (tell : Option Tell) (told : ToldSizes) → AreSilent (pipe_opened passing ++ (sized_by tell told ++ injected passing))
silent_before passing tell told =
    all_append (λ frame. speaks frame ≡ false) (pipe_opened passing) (sized_by tell told ++ injected passing) (silent_pipe passing)
    (all_append (λ frame. speaks frame ≡ false) (sized_by tell told) (injected passing) (silent_size tell told) (silent_inject passing))

owed_mirror : (rid : ℤ) (it : Plan) (segments : List ℕ) (before : List Frame) (told : ToldSizes) (m : Option (List ℕ))
    → before ≡ it.before → it.shm.told ≡ told → Grown (size_at rid told) m (mirror_from rid before m) → AreSilent before → IsWithin told it.filling
    → OwedMirror rid it.shm.told (owed_by it segments) m
owed_mirror rid it segments before told m before_is told_is grown silent within =
    let B : List Frame → Type 0 = λ fs. Grown (size_at rid told) m (mirror_from rid fs m) in
    let T : ToldSizes → Type 0 = λ t. Grown (size_at rid t) m (mirror_from rid it.before m) in
    let W : ToldSizes → Type 0 = λ t. IsWithin t it.filling in
    let S : List Frame → Type 0 = λ fs. AreSilent fs in
    let few : IsWithin it.shm.told it.filling = subst W (sym told_is) within in
    record {
      grown = subst T (sym told_is) (subst B before_is grown);
      within = ascend_pieces (blocks_of (told_at it.filling.file.rid it.shm.told)) it.filling.runs few.rise few.end;
      silent = subst S before_is silent;
    }

mirrored_plan : (side : Side) (rid : ℤ) (tables : Tables) (shm : ShmState) (message : List ℕ) (handle : Option Handle) (done : Admission) (it : Plan) (segments : List ℕ) (m : Option (List ℕ))
    → SaneTables side tables shm → IsPlanned tables shm message handle done it → Sized (size_at rid shm.told) m → OwedMirror rid it.shm.told (owed_by it segments) m
mirrored_plan side rid tables shm message handle done it segments m h planned sized =
    let passing : Option Passing = planned.passing in
    let tell : Option Tell = tell_in tables shm message done passing in
    let told : ToldSizes = after_tell tell shm.told in
    let deed : Deed = deed_of (own_way tables.handles.side) done.passed in
    let W : Plan → Type 0 = λ q. IsWithin told q.filling in
    owed_mirror rid it segments (pipe_opened passing ++ (sized_by tell shm.told ++ injected passing)) told m
    (ap (λ (q : Plan). q.before) planned.is)
    (ap (λ (q : Plan). q.shm.told) (sym planned.is) ∙ told-after_deed done.objects (object_of message) deed passing (record shm { told = told }))
    (grown_before rid passing tell shm.told m (tell_fits side tables shm message handle done passing h planned.has_rid) sized)
    (silent_before passing tell shm.told)
    (subst W planned.is (within_told done.objects (object_of message) deed passing (record shm { told = told })))

mirrored_taken : (side : Side) (rid : ℤ) (s : LogState) (message : List ℕ) (handle : Option Handle) (segments : List ℕ) (m : Option (List ℕ))
    → Sound side s → Mirrored rid s.shm.told s.owes m → MayTake s message handle segments
    → (let t = log_next s (Taken message handle segments) in Mirrored rid t.shm.told t.owes m)
mirrored_taken side rid s message handle segments m h mirrored may =
    let p = passed s message handle segments may in
    let O : Option Owed → Type 0 = λ owes. Mirrored rid s.shm.told owes m in
    let P : LogState → Type 0 = λ t. Mirrored rid t.shm.told t.owes m in
    subst P (sym (after_taken s message handle segments p))
    (mirrored_plan side rid s.tables s.shm message handle p.done p.it segments m h.tables p.is_planned (subst O may.owes_none mirrored))

-- ---- a group

-- the mirrors behind the frames of a group that go before its message
abbrev pub mirror_filled : ℤ → Owed → List ℕ → Option (List ℕ) → Option (List ℕ)
mirror_filled rid owed bytes m = mirror_from rid (fills owed.rid owed.pieces bytes) (mirror_from rid owed.before m)

pub own_filled : (owed : Owed) (copies : List CopyRecord) (told : ToldSizes) (m : Option (List ℕ))
    → length (words_bytes (words_in copies)) ≡ 64 * blocks_in owed.pieces → OwedMirror owed.rid told owed m
    → Fills (size_at owed.rid told) owed.pieces (words_bytes (words_in copies)) m (mirror_filled owed.rid owed (words_bytes (words_in copies)) m)
own_filled owed copies told m len mirrored =
    fills_grown owed.rid (size_at owed.rid told) owed.pieces (words_bytes (words_in copies)) m (mirror_from owed.rid owed.before m) mirrored.grown mirrored.within len

pub other_filled : (rid : ℤ) (owed : Owed) (bytes : List ℕ) (told : ToldSizes) (m : Option (List ℕ))
    → int_eq owed.rid rid ≡ false → OwedMirror rid told owed m → Fills (size_at rid told) [] [] m (mirror_filled rid owed bytes m)
other_filled rid owed bytes told m apart mirrored =
    others_grown rid owed.rid (size_at rid told) owed.pieces bytes m (mirror_from rid owed.before m) apart mirrored.grown

ending_unmirrored : (rid : ℤ) (shown : Option (List ℕ)) (m : Option (List ℕ)) → mirror_from rid (ending shown) m ≡ m
ending_unmirrored rid None m = refl
ending_unmirrored rid (Some message) m = refl

group_mirror : (rid : ℤ) (owed : Owed) (copies : List CopyRecord) (frames : List Frame) (m : Option (List ℕ)) → IsGroup owed copies frames
    → mirror_from rid frames m ≡ mirror_filled rid owed (words_bytes (words_in copies)) m
group_mirror rid owed copies frames m group =
    let bytes : List ℕ = words_bytes (words_in copies) in
    ap (λ (fs : List Frame). mirror_from rid fs m) group.is
    ∙ mirror-append rid owed.before (fills owed.rid owed.pieces bytes ++ ending owed.shown) m
    ∙ mirror-append rid (fills owed.rid owed.pieces bytes) (ending owed.shown) (mirror_from rid owed.before m)
    ∙ ending_unmirrored rid owed.shown (mirror_filled rid owed bytes m)

group_sized : (rid : ℤ) (owed : Owed) (copies : List CopyRecord) (frames : List Frame) (told : ToldSizes) (m : Option (List ℕ))
    → length (words_bytes (words_in copies)) ≡ 64 * blocks_in owed.pieces → OwedMirror rid told owed m → IsGroup owed copies frames
    → Sized (size_at rid told) (mirror_from rid frames m)
group_sized rid owed copies frames told m len mirrored group =
    let bytes : List ℕ = words_bytes (words_in copies) in
    let P : Option (List ℕ) → Type 0 = λ x. Sized (size_at rid told) x in
    let Q : ℤ → Type 0 = λ r. OwedMirror r told owed m → Sized (size_at r told) (mirror_filled r owed bytes m) in
    subst P (sym (group_mirror rid owed copies frames m group))
    (⊎_elim
    (λ same. subst Q ((Decides-int_eq owed.rid rid).0 same) (λ own. sized_filled (size_at owed.rid told) owed.pieces bytes m _ (own_filled owed copies told m len own)) mirrored)
    (λ apart. sized_filled (size_at rid told) [] [] m _ (other_filled rid owed bytes told m apart mirrored))
    (cases_Bool (int_eq owed.rid rid)))

lone_unmirrored : (rid : ℤ) (tables : Tables) (taking : Taking) (frame : Frame) (m : Option (List ℕ)) → is_lone tables taking frame ≡ true → mirror_step rid frame m ≡ m
lone_unmirrored rid tables taking (Close reason) m e = refl
lone_unmirrored rid tables taking (PipeTransfer other bytes) m e = refl
lone_unmirrored rid tables taking (PipeShutR other) m e = refl
lone_unmirrored rid tables taking (PipeShutW other) m e = refl
lone_unmirrored rid tables taking _ m e = absurd (false≢true e)

lone_leaves : (s : LogState) (frame : Frame) → ((after_lone s frame).owes ≡ s.owes) × ((after_lone s frame).shm ≡ s.shm)
lone_leaves s (Close reason) = (refl, refl)
lone_leaves s _ = (refl, refl)

mirrored_group : (side : Side) (rid : ℤ) (s : LogState) (owes : Option Owed) (frames : List Frame) (copies : List CopyRecord) (m : Option (List ℕ))
    → s.owes ≡ owes → Sound side s → Mirrored rid s.shm.told owes m → MayMake s owes frames copies
    → (let t = after_group s owes frames in Mirrored rid t.shm.told t.owes (mirror_from rid frames m))
mirrored_group side rid s (Some owed) frames copies m e h mirrored may =
    group_sized rid owed copies frames s.shm.told m (copied side s owed copies frames h e may) mirrored may
mirrored_group side rid s None [] copies m e h mirrored may = absurd may
mirrored_group side rid s None (frame ∷ []) copies m e h mirrored may =
    let leaves = lone_leaves s frame in
    let M : Option (List ℕ) → Type 0 = λ x. Sized (size_at rid s.shm.told) x in
    let S : ShmState → Type 0 = λ shm. Mirrored rid shm.told None (mirror_step rid frame m) in
    let O : Option Owed → Type 0 = λ owes. Mirrored rid (after_lone s frame).shm.told owes (mirror_step rid frame m) in
    subst O (sym (leaves.0 ∙ e)) (subst S (sym leaves.1) (subst M (sym (lone_unmirrored rid s.tables s.taking frame m may.1.may)) mirrored))
mirrored_group side rid s None (frame ∷ next ∷ frames) copies m e h mirrored may = absurd may

-- ---- along a story

mirrored_next : (side : Side) (rid : ℤ) (s : LogState) (mark : Mark) (m : Option (List ℕ)) → Sound side s → Mirrored rid s.shm.told s.owes m → Lawful s mark
    → (let t = log_next s mark in Mirrored rid t.shm.told t.owes (mirror_from rid (made_by mark) m))
mirrored_next side rid s (Taken message handle segments) m h mirrored may = mirrored_taken side rid s message handle segments m h mirrored may
mirrored_next side rid s (Heard frame) m h mirrored may = mirrored
mirrored_next side rid s (Dropped other) m h mirrored may = mirrored
mirrored_next side rid s (Grouped frames copies) m h mirrored may = mirrored_group side rid s s.owes frames copies m refl h mirrored may

mirrored_after : (side : Side) (rid : ℤ) (s : LogState) (story : List Mark) (m : Option (List ℕ)) → Sound side s → Mirrored rid s.shm.told s.owes m → Logs s story
    → (let t = log_after s story in Mirrored rid t.shm.told t.owes (mirror_from rid (made_in story) m))
mirrored_after side rid s [] m h mirrored logs = mirrored
mirrored_after side rid s (mark ∷ story) m h mirrored logs =
    let next = mirrored_after side rid (log_next s mark) story (mirror_from rid (made_by mark) m) (sound_next side s mark h logs.0)
    (mirrored_next side rid s mark m h mirrored logs.0) logs.1 in
    let t : LogState = log_after (log_next s mark) story in
    let P : Option (List ℕ) → Type 0 = λ x. Mirrored rid t.shm.told t.owes x in
    subst P (sym (mirror-append rid (made_by mark) (made_in story) m)) next

pub mirrored_now : (side : Side) (rid : ℤ) (story : List Mark) → IsStory side story
    → Mirrored rid (now side story).shm.told (now side story).owes (mirror rid (made_in story))
mirrored_now side rid story logs = mirrored_after side rid (log_new side) story None (sound_new side) refl logs
