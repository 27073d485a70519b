-- What frames give, by the frames alone, where each PROTOCOL frame has one message: it takes the rid that waits.
use Rattle.std.proofs.Common.{◌≡◌, ℕ, true, List, [], ◌∷◌, ◌++◌, ℤ, map, Option, Some, None, option_to_list, option_map, option_and_then, Result, refl, sym, ap, ◌∙◌, subst, append_assoc, append-nil}
use Rattle.std.proofs.lemmas.Bool.{cond_both, false≢true}
use Rattle.std.specs.List.{AllByRecursion, slice_get}
use Rattle.std.specs.Option.{MatchOption}
use Rattle.block_intervals.specs.declared.run.Run.{Run}
use Rattle.plain_lists.specs.Fronts.{IsFront}
use Rattle.plain_lists.proofs.FrontLemmas.{IsFront-append, IsFront_self, IsFront_trans}
use Rattle.wp_outside.specs.declared.kinds.Side.{Side}
use Rattle.wl_wire.specs.Wire.{IsMessage}
use Rattle.handle_table.specs.declared.handles.Handle.{Handle}
use Rattle.handle_table.specs.Table.{Table}
use Rattle.transfer_frames.specs.declared.frame.Frame.{Frame}
use Rattle.transfer_frames.specs.declared.frame.Frame.TheVariants.{Protocol, Inject, OpenFile, ExtendFile, OpenPipe, PipeTransfer, PipeShutR, PipeShutW, Close}
use Rattle.half_model.specs.declared.notes.CopyRecord.{CopyRecord}
use Rattle.half_model.specs.Content.{Taking}
use Rattle.half_model.specs.Filling.{fills, ending, words_bytes}
use Rattle.half_model.specs.Group.{Owed, owed_by, IsGroup, words_in}
use Rattle.half_model.specs.Log.{Mark, Taken, Heard, Grouped, Dropped, LogState, log_new, is_lone, MayMake, log_next, Logs}
use Rattle.half_model.specs.Planning.{Plan, Refusal, size_frame, sized_by, is_new_pipe, pipe_opened, injected, tell_in}
use Rattle.half_model.specs.Shm.{Passing, passing_of, Tell, grows}
use Rattle.mirror_pools.specs.Sizes.{ToldSizes}
use Rattle.half_model.specs.Story.{Sent, made_in, sent_from, sent_by, sent_by_plan}
use Rattle.half_model.specs.StoryLaws.{IsStory}
use Rattle.half_model.specs.Tables.{Tables}
use Rattle.half_model.proofs.Frames.{all_append}
use Rattle.half_model.proofs.Known.{OwedBare, Known, known_next, known_new}
use Rattle.half_model.proofs.Owing.{OwedGood}
use Rattle.half_model.proofs.Plans.{HasRid}
use Rattle.half_model.proofs.ShownLaws.{group_owes}
use Rattle.half_model.proofs.Sound.{Sound, IsPassed, passed, after_taken, sound_next, sound_new}

-- the rids that wait, and what was given
pub record Expected : Type 0 where
  pub waiting : List ℤ
  pub given : List Sent

abbrev pub expect_frame : Frame → Expected → Expected
expect_frame (Protocol bytes) e = record { waiting = []; given = e.given ++ (bytes, slice_get e.waiting 0) ∷ [] }
expect_frame (Inject rids) e = record e { waiting = e.waiting ++ rids }
expect_frame frame e = e

abbrev pub expect : List Frame → Expected → Expected
expect [] e = e
expect (frame ∷ frames) e = expect frames (expect_frame frame e)

pub expect-append : (xs ys : List Frame) (e : Expected) → expect (xs ++ ys) e ≡ expect ys (expect xs e)
expect-append [] ys e = refl
expect-append (x ∷ xs) ys e = expect-append xs ys (expect_frame x e)

-- what was given stays
given_stays : (frame : Frame) (e : Expected) → IsFront e.given (expect_frame frame e).given
given_stays (Protocol bytes) e = IsFront-append e.given _
given_stays _ e = IsFront_self e.given

pub expect_front : (frames : List Frame) (e : Expected) → IsFront e.given (expect frames e).given
expect_front [] e = IsFront_self e.given
expect_front (frame ∷ frames) e = IsFront_trans (given_stays frame e) (expect_front frames (expect_frame frame e))

-- a PROTOCOL frame has one whole message
abbrev pub HasOne : Frame → Type 0
HasOne (Protocol bytes) = IsMessage bytes
HasOne frame = Unit {0}

-- ---- the frames of one message

-- nothing is given or waits for these frames
abbrev Calm : List Frame → Type 0
Calm frames = AllByRecursion HasOne frames × ((e : Expected) → expect frames e ≡ e)

calm_pipe : (passing : Option Passing) → Calm (pipe_opened passing)
calm_pipe None = (tt, λ e. refl)
calm_pipe (Some it) = cond_both (is_new_pipe it) (OpenPipe it.rid ∷ []) [] Calm (λ yes. ((tt, tt), λ e. refl)) (λ apart. (tt, λ e. refl))

calm_size : (tell : Option Tell) (told : ToldSizes) → Calm (sized_by tell told)
calm_size None told = (tt, λ e. refl)
calm_size (Some tell) told =
    cond_both (grows tell told) (size_frame tell ∷ []) [] Calm
    (λ more. cond_both tell.is_new (OpenFile tell.file.rid tell.size) (ExtendFile tell.file.rid tell.size) (λ frame. Calm (frame ∷ []))
    (λ new. ((tt, tt), λ e. refl)) (λ old. ((tt, tt), λ e. refl)))
    (λ apart. (tt, λ e. refl))

calm_fills : (rid : ℤ) (pieces : List Run) (bytes : List ℕ) → Calm (fills rid pieces bytes)
calm_fills rid [] bytes = (tt, λ e. refl)
calm_fills rid (piece ∷ pieces) bytes = let rest = calm_fills rid pieces _ in ((tt, rest.0), rest.1)

abbrev rids_passed : Option Passing → List ℤ
rids_passed passing = option_to_list (option_map (λ it. it.rid) passing)

injects : (passing : Option Passing) → AllByRecursion HasOne (injected passing) × ((given : List Sent) → expect (injected passing) (record { waiting = []; given = given }) ≡ record { waiting = rids_passed passing; given = given })
injects None = (tt, λ given. refl)
injects (Some it) = ((tt, tt), λ given. refl)

-- the frames before the blocks leave the rid of the handle to wait
pub before_waits : (passing : Option Passing) (tell : Option Tell) (told : ToldSizes)
    → AllByRecursion HasOne (pipe_opened passing ++ (sized_by tell told ++ injected passing))
    × ((given : List Sent) → expect (pipe_opened passing ++ (sized_by tell told ++ injected passing)) (record { waiting = []; given = given }) ≡ record { waiting = rids_passed passing; given = given })
before_waits passing tell told =
    let pipe = calm_pipe passing in
    let size = calm_size tell told in
    let last = injects passing in (
      all_append HasOne (pipe_opened passing) _ pipe.0 (all_append HasOne (sized_by tell told) (injected passing) size.0 last.0),
      λ given. let e : Expected = record { waiting = []; given = given } in
          expect-append (pipe_opened passing) (sized_by tell told ++ injected passing) e
          ∙ ap (λ (x : Expected). expect (sized_by tell told ++ injected passing) x) (pipe.1 e)
          ∙ expect-append (sized_by tell told) (injected passing) e
          ∙ ap (λ (x : Expected). expect (injected passing) x) (size.1 e)
          ∙ last.1 given,
    )

-- ---- what is owed

-- the message that is owed with its rid
pub record IsPending (owed : Owed) (pending : List Sent) : Type 0 where
  pub rid : Option ℤ
  pub alone : AllByRecursion HasOne owed.before
  pub waits : (given : List Sent) → expect owed.before (record { waiting = []; given = given }) ≡ record { waiting = option_to_list rid; given = given }
  pub is : pending ≡ map (λ message. (message, rid)) (option_to_list owed.shown)

abbrev pub Pending : Option Owed → List Sent → Type 0
Pending None pending = pending ≡ []
Pending (Some owed) pending = IsPending owed pending

first_of_rid : (rid : Option ℤ) → slice_get (option_to_list rid) 0 ≡ rid
first_of_rid None = refl
first_of_rid (Some rid) = refl

-- a group leaves no rid to wait, and gives its message
ending_gives : (shown : Option (List ℕ)) (rid : Option ℤ) (given : List Sent) → (shown ≡ None → option_to_list rid ≡ [])
    → expect (ending shown) (record { waiting = option_to_list rid; given = given }) ≡ record { waiting = []; given = given ++ map (λ message. (message, rid)) (option_to_list shown) }
ending_gives None rid given none = ap (λ (w : List ℤ). let e : Expected = record { waiting = w; given = given } in e) (none refl) ∙ ap (λ (g : List Sent). let e : Expected = record { waiting = []; given = g } in e) (sym (append-nil given))
ending_gives (Some message) rid given none = ap (λ (r : Option ℤ). let e : Expected = record { waiting = []; given = given ++ (message, r) ∷ [] } in e) (first_of_rid rid)

no_rid : (owed : Owed) (pending : List Sent) → OwedBare owed → (p : IsPending owed pending) → owed.shown ≡ None → option_to_list p.rid ≡ []
no_rid owed pending bare p none =
    ap (λ (e : Expected). e.waiting) (sym (p.waits []) ∙ ap (λ (before : List Frame). expect before (record { waiting = []; given = [] })) (bare.before none))

pub group_gives : (owed : Owed) (pending : List Sent) (copies : List CopyRecord) (frames : List Frame) (given : List Sent)
    → IsPending owed pending → OwedBare owed → IsGroup owed copies frames
    → expect frames (record { waiting = []; given = given }) ≡ record { waiting = []; given = given ++ pending }
group_gives owed pending copies frames given p bare group =
    let bytes : List ℕ = words_bytes (words_in copies) in
    let first : Expected = record { waiting = []; given = given } in
    let between : Expected = record { waiting = option_to_list p.rid; given = given } in
    ap (λ (fs : List Frame). expect fs first) group.is
    ∙ expect-append owed.before (fills owed.rid owed.pieces bytes ++ ending owed.shown) first
    ∙ ap (λ (e : Expected). expect (fills owed.rid owed.pieces bytes ++ ending owed.shown) e) (p.waits given)
    ∙ expect-append (fills owed.rid owed.pieces bytes) (ending owed.shown) between
    ∙ ap (λ (e : Expected). expect (ending owed.shown) e) ((calm_fills owed.rid owed.pieces bytes).1 between)
    ∙ ending_gives owed.shown p.rid given (no_rid owed pending bare p)
    ∙ ap (λ (ms : List Sent). let e : Expected = record { waiting = []; given = given ++ ms } in e) (sym p.is)

ending_one : (shown : Option (List ℕ)) → MatchOption shown (Unit {0}) IsMessage → AllByRecursion HasOne (ending shown)
ending_one None h = tt
ending_one (Some message) h = (h, tt)

pub group_has_one : (owed : Owed) (pending : List Sent) (copies : List CopyRecord) (frames : List Frame)
    → IsPending owed pending → OwedGood owed → IsGroup owed copies frames → AllByRecursion HasOne frames
group_has_one owed pending copies frames p good group =
    let bytes : List ℕ = words_bytes (words_in copies) in
    let P : List Frame → Type 0 = λ fs. AllByRecursion HasOne fs in
    subst P (sym group.is)
    (all_append HasOne owed.before _ p.alone (all_append HasOne (fills owed.rid owed.pieces bytes) (ending owed.shown) (calm_fills owed.rid owed.pieces bytes).0 (ending_one owed.shown good.shown)))

-- ---- along a story

lone_calm : (tables : Tables) (taking : Taking) (frame : Frame) → is_lone tables taking frame ≡ true → Calm (frame ∷ [])
lone_calm tables taking (Close reason) is = ((tt, tt), λ e. refl)
lone_calm tables taking (PipeTransfer rid bytes) is = ((tt, tt), λ e. refl)
lone_calm tables taking (PipeShutR rid) is = ((tt, tt), λ e. refl)
lone_calm tables taking (PipeShutW rid) is = ((tt, tt), λ e. refl)
lone_calm tables taking _ is = absurd (false≢true is)

-- what frames that are made give: the message that was pending
made_gives : (s : LogState) (owes : Option Owed) (pending : List Sent) (frames : List Frame) (copies : List CopyRecord) (given : List Sent)
    → Pending owes pending → MatchOption owes (Unit {0}) OwedBare → MatchOption owes (Unit {0}) OwedGood → MayMake s owes frames copies
    → AllByRecursion HasOne frames × (expect frames (record { waiting = []; given = given }) ≡ record { waiting = []; given = given ++ pending })
made_gives s (Some owed) pending frames copies given p bare good may =
    (group_has_one owed pending copies frames p good may, group_gives owed pending copies frames given p bare may)
made_gives s None pending [] copies given p bare good may = absurd may
made_gives s None pending (frame ∷ []) copies given p bare good may =
    let calm = lone_calm s.tables s.taking frame may.1.may in
    (calm.0, calm.1 _ ∙ ap (λ (g : List Sent). let e : Expected = record { waiting = []; given = g } in e) (sym (append-nil given) ∙ ap (λ (ms : List Sent). given ++ ms) (sym p)))
made_gives s None pending (frame ∷ next ∷ frames) copies given p bare good may = absurd may

rid_of_planned : (handles : Table) (handle : Option Handle) (passing : Option Passing) → HasRid handles handle passing
    → option_and_then (λ it. option_map (λ one. one.rid) (passing_of handles it)) handle ≡ option_map (λ it. it.rid) passing
rid_of_planned handles None None has = refl
rid_of_planned handles None (Some it) has = absurd has
rid_of_planned handles (Some handle) None has = absurd has
rid_of_planned handles (Some handle) (Some it) has = ap (λ (p : Option Passing). option_map (λ (one : Passing). one.rid) p) has

-- a message that is taken is pending
taken_pends : (s : LogState) (message : List ℕ) (handle : Option Handle) (segments : List ℕ) (p : IsPassed s message handle segments)
    → IsPending (owed_by p.it segments) (sent_by s (Taken message handle segments))
taken_pends s message handle segments p =
    let planned = p.is_planned in
    let tell : Option Tell = tell_in s.tables s.shm message p.done planned.passing in
    let waits = before_waits planned.passing tell s.shm.told in
    let before : pipe_opened planned.passing ++ (sized_by tell s.shm.told ++ injected planned.passing) ≡ p.it.before = ap (λ (it : Plan). it.before) planned.is in
    let P : List Frame → Type 0 = λ fs. AllByRecursion HasOne fs in
    record {
      rid = option_map (λ it. it.rid) planned.passing;
      alone = subst P before waits.0;
      waits = λ given. ap (λ (fs : List Frame). expect fs (record { waiting = []; given = given })) (sym before) ∙ waits.1 given;
      is = ap (λ (r : Result Plan Refusal). sent_by_plan s handle r) p.is
          ∙ ap (λ (rid : Option ℤ). map (λ (message : List ℕ). (message, rid)) (option_to_list p.it.shown)) (rid_of_planned s.tables.handles handle planned.passing planned.has_rid);
    }

pub record Gives (frames : List Frame) (given sent : List Sent) : Type 0 where
  pub alone : AllByRecursion HasOne frames
  pub front : IsFront (expect frames (record { waiting = []; given = given })).given (given ++ sent)

gives_from : (side : Side) (s : LogState) (story : List Mark) (given pending : List Sent) → Sound side s → Known s → Pending s.owes pending → Logs s story
    → Gives (made_in story) given (pending ++ sent_from s story)
gives_from side s [] given pending sound known p logs = record { alone = tt; front = IsFront-append given _ }
gives_from side s (Taken message handle segments ∷ story) given pending sound known p logs =
    let mark : Mark = Taken message handle segments in
    let full = passed s message handle segments logs.0 in
    let O : Option Owed → Type 0 = λ o. Pending o pending in
    let none : pending ≡ [] = subst O logs.0.owes_none p in
    let S : LogState → Type 0 = λ t. Pending t.owes (sent_by s mark) in
    let next = gives_from side (log_next s mark) story given (sent_by s mark) (sound_next side s mark sound logs.0) (known_next side s mark sound known logs.0)
    (subst S (sym (after_taken s message handle segments full)) (taken_pends s message handle segments full)) logs.1 in
    let G : List Sent → Type 0 = λ before. Gives (made_in story) given (before ++ (sent_by s mark ++ sent_from (log_next s mark) story)) in
    subst G (sym none) next
gives_from side s (Heard frame ∷ story) given pending sound known p logs =
    gives_from side (log_next s (Heard frame)) story given pending (sound_next side s (Heard frame) sound logs.0) (known_next side s (Heard frame) sound known logs.0) p logs.1
gives_from side s (Dropped rid ∷ story) given pending sound known p logs =
    gives_from side (log_next s (Dropped rid)) story given pending (sound_next side s (Dropped rid) sound logs.0) (known_next side s (Dropped rid) sound known logs.0) p logs.1
gives_from side s (Grouped frames copies ∷ story) given pending sound known p logs =
    let mark : Mark = Grouped frames copies in
    let made = made_gives s s.owes pending frames copies given p known.bare sound.owes logs.0 in
    let O : Option Owed → Type 0 = λ o. Pending o [] in
    let next = gives_from side (log_next s mark) story (given ++ pending) [] (sound_next side s mark sound logs.0) (known_next side s mark sound known logs.0)
    (subst O (sym (group_owes s s.owes frames refl)) refl) logs.1 in
    let F : List Sent → Type 0 = λ all. IsFront all (given ++ (pending ++ sent_from (log_next s mark) story)) in
    let W : List Sent → Type 0 = λ all. IsFront (expect (made_in story) (record { waiting = []; given = given ++ pending })).given all in
    record {
      alone = all_append HasOne frames (made_in story) made.0 next.alone;
      front = subst F
          (sym (ap (λ (e : Expected). e.given) (expect-append frames (made_in story) (record { waiting = []; given = given }) ∙ ap (λ (e : Expected). expect (made_in story) e) made.1)))
          (subst W (append_assoc given pending (sent_from (log_next s mark) story)) next.front);
    }

pub gives : (side : Side) (story : List Mark) → IsStory side story → Gives (made_in story) [] (sent_from (log_new side) story)
gives side story logs = gives_from side (log_new side) story [] [] (sound_new side) (known_new side) refl logs
