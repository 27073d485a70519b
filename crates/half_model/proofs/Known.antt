-- Wherever a story has come to, its objects rise by id, and nothing but a message is owed where none is shown.
use Rattle.std.proofs.Common.{◌≡◌, ℕ, List, [], ◌∷◌, ◌++◌, map, Option, Some, None, Ok, refl, sym, ap, ◌∙◌, subst}
use Rattle.std.specs.List.Sorted.{IsStrictlySortedBy}
use Rattle.std.specs.Option.{MatchOption}
use Rattle.block_intervals.specs.declared.run.Run.{Run}
use Rattle.wp_outside.specs.declared.kinds.Side.{Side}
use Rattle.wl_wire.specs.Wire.{cut}
use Rattle.wl_objects.specs.Entries.{Tracked, first_objects}
use Rattle.wl_objects.specs.Registry.{ObjectsState}
use Rattle.wl_objects.specs.Tracking.{step}
use Rattle.wl_tables.specs.declared.way.Way.{Way}
use Rattle.handle_table.specs.declared.handles.Handle.{Handle}
use Rattle.handle_table.specs.Table.{Table}
use Rattle.transfer_frames.specs.declared.frame.Frame.{Frame}
use Rattle.transfer_frames.specs.declared.frame.Frame.TheVariants.{Protocol, Close}
use Rattle.half_model.specs.declared.notes.CopyRecord.{CopyRecord}
use Rattle.half_model.specs.Content.{Passage, passed_step, pass_all}
use Rattle.half_model.specs.Filling.{parts_of, pieces_of, words_bytes, fills, ending}
use Rattle.half_model.specs.Group.{Owed, part_of, words_in}
use Rattle.half_model.specs.Log.{Mark, Taken, Heard, Grouped, Dropped, LogState, log_new, MayTake, MayHear, after_lone, after_group, Lawful, log_next, Logs, log_after}
use Rattle.half_model.specs.Planning.{Plan}
use Rattle.half_model.specs.Sides.{other_way}
use Rattle.half_model.specs.StoryLaws.{now, IsStory, UnshownIsEmpty}
use Rattle.half_model.proofs.Passages.{goes_ok, same_passage, stepped, passage_new, accepted}
use Rattle.half_model.proofs.Rising.{Rises, step_rises}
use Rattle.half_model.proofs.Shown.{heard-ok, group_objects}
use Rattle.half_model.proofs.Sound.{Sound, passed, after_taken, sound_next, sound_new}
use Rattle.half_model.proofs.Unshown.{hidden_bare}

-- where no message is shown nothing else is owed
pub record OwedBare (owed : Owed) : Type 0 where
  pub before : owed.shown ≡ None → owed.before ≡ []
  pub pieces : owed.shown ≡ None → owed.pieces ≡ []

pub record Known (s : LogState) : Type 0 where
  pub rises : Rises s.tables.objects.tracked
  pub bare : MatchOption s.owes (Unit {0}) OwedBare

-- ---- a message that is taken

known_taken : (side : Side) (s : LogState) (message : List ℕ) (handle : Option Handle) (segments : List ℕ)
    → Sound side s → Known s → MayTake s message handle segments → Known (log_next s (Taken message handle segments))
known_taken side s message handle segments sound h may =
    let p = passed s message handle segments may in
    let bare = hidden_bare side s.tables s.shm message handle p.done p.it sound.tables.0 h.rises p.stepped p.is_planned in
    let P : LogState → Type 0 = λ t. Known t in
    let R : Plan → Type 0 = λ it. Rises it.tables.objects.tracked in
    subst P (sym (after_taken s message handle segments p)) (record {
      rises = subst R p.is_planned.is (step_rises _ s.tables.objects.tracked message p.done h.rises p.stepped);
      bare = record { before = λ e. (bare e).none; pieces = λ e. ap pieces_of (bare e).bare };
    })

-- ---- a frame that is heard

passed_rises : (way : Way) (handles : Table) (messages : List (List ℕ)) (before after : Passage) → Rises before.tracked → pass_all way handles messages before ≡ Ok after → Rises after.tracked
passed_rises way handles [] before after h e =
    let P : Passage → Type 0 = λ p. Rises p.tracked in subst P (same_passage before after _ refl e) h
passed_rises way handles (message ∷ messages) before after h e =
    let got = goes_ok (passed_step (step way before.tracked message) way message before handles) (pass_all way handles messages) after e in
    let one = stepped (step way before.tracked message) way message before got.0 handles got.1 in
    let P : Tracked → Type 0 = λ o. Rises o in
    passed_rises way handles messages got.0 after (subst P one.tracked (step_rises way before.tracked message one.done h one.is)) got.2

heard_rises : (s : LogState) (frame : Frame) → Rises s.tables.objects.tracked → MayHear s frame → Rises (log_next s (Heard frame)).tables.objects.tracked
heard_rises s (Protocol bytes) h may =
    let a = accepted s.tables s.taking bytes may.accepted in
    let P : ObjectsState → Type 0 = λ o. Rises o.tracked in
    subst P (sym (heard-ok s.tables s.taking bytes a)) (passed_rises (other_way s.tables.handles.side) s.tables.handles (cut bytes) (passage_new s.tables s.taking) a.after h a.all)
heard_rises s _ h may = h

-- ---- any mark

lone_owes : (s : LogState) (frame : Frame) → (after_lone s frame).owes ≡ s.owes
lone_owes s (Close reason) = refl
lone_owes s _ = refl

group_bare : (s : LogState) (owes : Option Owed) (frames : List Frame) → MatchOption s.owes (Unit {0}) OwedBare → MatchOption (after_group s owes frames).owes (Unit {0}) OwedBare
group_bare s (Some owed) frames h = tt
group_bare s None [] h = h
group_bare s None (frame ∷ []) h = let P : Option Owed → Type 0 = λ o. MatchOption o (Unit {0}) OwedBare in subst P (sym (lone_owes s frame)) h
group_bare s None (frame ∷ next ∷ frames) h = h

pub known_next : (side : Side) (s : LogState) (mark : Mark) → Sound side s → Known s → Lawful s mark → Known (log_next s mark)
known_next side s (Taken message handle segments) sound h may = known_taken side s message handle segments sound h may
known_next side s (Heard frame) sound h may = record { rises = heard_rises s frame h.rises may; bare = h.bare }
known_next side s (Grouped frames copies) sound h may =
    let P : ObjectsState → Type 0 = λ o. Rises o.tracked in
    record { rises = subst P (sym (group_objects s s.owes frames)) h.rises; bare = group_bare s s.owes frames h.bare }
known_next side s (Dropped rid) sound h may = record { rises = h.rises; bare = h.bare }

first_rises : Rises first_objects
unfolding IsStrictlySortedBy
first_rises = (tt, tt)

pub known_new : (side : Side) → Known (log_new side)
known_new side = record { rises = first_rises; bare = tt }

known_after : (side : Side) (s : LogState) (story : List Mark) → Sound side s → Known s → Logs s story → Known (log_after s story)
known_after side s [] sound h logs = h
known_after side s (mark ∷ story) sound h logs = known_after side (log_next s mark) story (sound_next side s mark sound logs.0) (known_next side s mark sound h logs.0) logs.1

pub known_now : (side : Side) (story : List Mark) → IsStory side story → Known (now side story)
known_now side story logs = known_after side (log_new side) story (sound_new side) (known_new side) logs

-- ---- its group

no_copies : (copies : List CopyRecord) → map part_of copies ≡ [] → copies ≡ []
no_copies [] e = refl
no_copies (copy ∷ copies) e = absurd cc

pub unshown_is_empty : UnshownIsEmpty
unshown_is_empty side story owed frames copies logs is none group =
    let P : Option Owed → Type 0 = λ o. MatchOption o (Unit {0}) OwedBare in
    let bare : OwedBare owed = subst P is (known_now side story logs).bare in
    let bytes : List ℕ = words_bytes (words_in copies) in (
      group.is ∙ ap (λ (before : List Frame). before ++ (fills owed.rid owed.pieces bytes ++ ending owed.shown)) (bare.before none)
          ∙ ap (λ (pieces : List Run). fills owed.rid pieces bytes ++ ending owed.shown) (bare.pieces none) ∙ ap ending none,
      no_copies copies (group.are_parts ∙ ap (λ (pieces : List Run). parts_of owed.file owed.segments pieces) (bare.pieces none)),
    )
