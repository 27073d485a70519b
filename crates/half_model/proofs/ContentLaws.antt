-- A side's frames are refused for what they say only by their count of rids or by tracking.
use Rattle.std.proofs.Common.{◌≡◌, ℕ, Bool, true, false, cond, flat_map, ◌||◌, not, List, [], ◌∷◌, ◌++◌, ℤ, Option, Some, None, is_some, Result, Ok, Err, ⊎_elim, refl, sym, ap, ◌∙◌, subst}
use Rattle.std.proofs.lemmas.Bool.{cond_both, and_parts, false≢true, not_from_true}
use Rattle.std.proofs.lemmas.Cmp.{int_cmp_total}
use Rattle.std.proofs.lemmas.Grind.{flat_map-append}
use Rattle.std.proofs.lemmas.Map.Lookups.{exact_signed}
use Rattle.std.specs.List.{AllByRecursion}
use Rattle.std.specs.Option.{MatchOption}
use Rattle.block_intervals.specs.declared.run.Run.{Run}
use Rattle.wp_outside.specs.declared.kinds.HandleKind.{HandleKind}
use Rattle.wp_outside.specs.declared.kinds.Side.{Side}
use Rattle.wl_wire.specs.declared.faults.ObjectFault.{ObjectFault}
use Rattle.wl_wire.specs.Wire.{cut}
use Rattle.wl_tables.specs.declared.way.Way.{Way}
use Rattle.wl_objects.specs.Entries.{Tracked}
use Rattle.wl_objects.specs.Tracking.{Admission, step}
use Rattle.handle_table.specs.Table.{Table, kind_of_rid}
use Rattle.transfer_frames.specs.declared.cause.FrameCause.{FrameCause}
use Rattle.transfer_frames.specs.declared.cause.FrameCause.TheVariants.{RidInUse, RidUnknown, RidCount, PipeUnknown, PipeShut}
use Rattle.transfer_frames.specs.declared.frame.Frame.{Frame}
use Rattle.transfer_frames.specs.declared.frame.Frame.TheVariants.{Protocol, Inject, OpenFile, ExtendFile, Fill, OpenPipe, PipeTransfer, PipeShutR, PipeShutW, Ack, Restart, Close}
use Rattle.transfer_frames.specs.Faults.{or_else}
use Rattle.half_model.specs.declared.notes.CopyRecord.{CopyRecord}
use Rattle.half_model.specs.Content.{Taking, Passage, has_kind, passed_with, passed_by_kind, passed_step, and_then, pass_all, none_waits, passage_of, cause_in, content_fault}
use Rattle.half_model.specs.Filling.{fills, ending, words_bytes}
use Rattle.half_model.specs.Group.{Owed, IsGroup, words_in}
use Rattle.half_model.specs.Log.{Mark, Taken, Heard, Grouped, Dropped, LogState, log_new, is_lone, MayMake, log_next, Logs, log_after}
use Rattle.half_model.specs.PairLaws.{MayRefuse, ContentIsFine, Hears}
use Rattle.pipe_relay.specs.Pipes.{Rids, has_rid}
use Rattle.half_model.specs.PipeTurn.{may_write}
use Rattle.half_model.specs.Planning.{kind_carried}
use Rattle.half_model.specs.Sides.{other_side, other_way, is_own}
use Rattle.mirror_pools.specs.Sizes.{open_cause}
use Rattle.half_model.specs.Story.{made_in, accepted_in}
use Rattle.half_model.specs.StoryLaws.{now, IsStory}
use Rattle.half_model.specs.Tables.{Tables}
use Rattle.half_model.proofs.Fine.{Fine, AllFine, IsFree}
use Rattle.half_model.proofs.FineStory.{OwesFine, has_of, writes}
use Rattle.half_model.proofs.FrameStates.{FrameState, frames_left, frame_left, left-append, as_left, none_left, left_after}
use Rattle.half_model.proofs.Maps.{any_cases}
use Rattle.half_model.proofs.Owing.{OwedGood, piped_by}
use Rattle.half_model.proofs.Sound.{Sound, sound_next, sound_new, sound_now}

-- ---- the messages of a frame

-- a passage that is refused only so
abbrev Refused : Result Passage FrameCause → Type 0
Refused told = MayRefuse (cause_in told)

refused_with : (tracked : Tracked) (message : List ℕ) (kind : HandleKind) (now : Passage) (handles : Table) (rids : List ℤ) → Refused (passed_with tracked message kind now handles rids)
refused_with tracked message kind now handles [] = tt
refused_with tracked message kind now handles (rid ∷ rids) =
    cond_both (has_kind kind (kind_of_rid handles rid)) (Ok _) (Err RidCount) Refused (λ yes. tt) (λ apart. tt)

refused_kind : (kind : Option HandleKind) (tracked : Tracked) (message : List ℕ) (now : Passage) (handles : Table) → Refused (passed_by_kind kind tracked message now handles)
refused_kind None tracked message now handles = tt
refused_kind (Some kind) tracked message now handles = refused_with tracked message kind now handles now.waiting

refused_step : (told : Result Admission ObjectFault) (way : Way) (message : List ℕ) (now : Passage) (handles : Table) → Refused (passed_step told way message now handles)
refused_step (Ok done) way message now handles = refused_kind (kind_carried way done.passed) done.objects message now handles
refused_step (Err fault) way message now handles = tt

refused_then : (told : Result Passage FrameCause) (next : Passage → Result Passage FrameCause) → Refused told → ((p : Passage) → Refused (next p)) → Refused (and_then told next)
refused_then (Ok now) next h go = go now
refused_then (Err cause) next h go = h

refused_all : (way : Way) (handles : Table) (messages : List (List ℕ)) (now : Passage) → Refused (pass_all way handles messages now)
refused_all way handles [] now = tt
refused_all way handles (message ∷ messages) now =
    refused_then (passed_step (step way now.tracked message) way message now handles) (pass_all way handles messages)
    (refused_step (step way now.tracked message) way message now handles) (refused_all way handles messages)

refused_waits : (waiting : List ℤ) (now : Passage) → Refused (none_waits waiting now)
refused_waits [] now = tt
refused_waits (rid ∷ rids) now = tt

refused_frame : (tables : Tables) (taking : Taking) (bytes : List ℕ) → Refused (passage_of tables taking bytes)
refused_frame tables taking bytes =
    refused_then (pass_all (other_way tables.handles.side) tables.handles (cut bytes) _) (λ now. none_waits now.waiting now)
    (refused_all (other_way tables.handles.side) tables.handles (cut bytes) _) (λ now. refused_waits now.waiting now)

-- ---- a frame that is fine

may_none : (cause : Option FrameCause) → cause ≡ None → MayRefuse cause
may_none cause e = let P : Option FrameCause → Type 0 = λ c. MayRefuse c in subst P (sym e) tt

two_pass : (a b : Bool) (x y : FrameCause) → a ≡ false → b ≡ false → cond a (Some x) (cond b (Some y) None) ≡ None
two_pass false false x y e f = refl
two_pass true b x y e f = absurd cc
two_pass false true x y e f = absurd cc

free_cause : (s : LogState) (side : Side) (rid : ℤ) → s.tables.handles.side ≡ other_side side → IsFree side (as_left s) rid
    → cond (is_some (kind_of_rid s.tables.handles rid) || is_own s.tables.handles.side rid) (Some RidInUse) None ≡ None
free_cause s side rid is free =
    ap (λ (k : Option HandleKind). cond (is_some k || is_own s.tables.handles.side rid) (Some RidInUse) None) free.closed
    ∙ ap (λ (sd : Side). cond (is_own sd rid) (Some RidInUse) None) is
    ∙ ap (λ (b : Bool). cond b (Some RidInUse) None) free.apart

-- what a frame asks of the pipes that the hearing side opened
abbrev OwnPipe : Rids → Frame → Type 0
OwnPipe own (PipeTransfer rid bytes) = has_rid rid own ≡ true
OwnPipe own (PipeShutW rid) = has_rid rid own ≡ true
OwnPipe own frame = Unit {0}

fine_passes : (s : LogState) (side : Side) (frame : Frame) → s.tables.handles.side ≡ other_side side → Fine side (as_left s) frame → OwnPipe s.tables.pipes.own frame
    → MayRefuse (content_fault s.tables s.taking frame)
fine_passes s side (Protocol bytes) is fine own = refused_frame s.tables s.taking bytes
fine_passes s side (Inject rids) is fine own = may_none _ (ap (λ (b : Bool). cond b (Some RidUnknown) None) fine)
fine_passes s side (OpenFile rid size) is fine own =
    may_none _ (ap (λ (o : Option FrameCause). or_else o (open_cause rid size s.taking.sizes)) (free_cause s side rid is fine.0) ∙ fine.1)
fine_passes s side (ExtendFile rid size) is fine own = may_none _ fine
fine_passes s side (Fill rid start end bytes) is fine own = may_none _ fine
fine_passes s side (OpenPipe rid) is fine own = may_none _ (free_cause s side rid is fine)
fine_passes s side (PipeTransfer rid bytes) is fine own = may_none _ (two_pass (not (has_rid rid s.tables.pipes.own)) (has_rid rid s.tables.pipes.ended) PipeUnknown PipeShut (not_from_true _ own) fine)
fine_passes s side (PipeShutW rid) is fine own = may_none _ (two_pass (not (has_rid rid s.tables.pipes.own)) (has_rid rid s.tables.pipes.ended) PipeUnknown PipeShut (not_from_true _ own) fine)
fine_passes s side (PipeShutR rid) is fine own = may_none _ (two_pass (not (has_rid rid s.tables.pipes.other)) (has_rid rid s.tables.pipes.shut) PipeUnknown PipeShut (not_from_true _ fine.0) fine.1)
fine_passes s side (Ack count) is fine own = tt
fine_passes s side (Restart token connection received) is fine own = tt
fine_passes s side (Close reason) is fine own = tt

-- ---- pipes that the other side opened

-- a rid that was opened stays so
opened_stays : (frame : Frame) (f : FrameState) (rid : ℤ) → has_rid rid f.opened ≡ true → has_rid rid (frame_left frame f).opened ≡ true
opened_stays (OpenPipe other) f rid e = ⊎_elim (λ put. put.1) (λ same. same ∙ e) (any_cases int_cmp_total exact_signed f.opened other rid)
opened_stays _ f rid e = e

all_opened_stay : (frames : List Frame) (f : FrameState) (rid : ℤ) → has_rid rid f.opened ≡ true → has_rid rid (frames_left frames f).opened ≡ true
all_opened_stay [] f rid e = e
all_opened_stay (frame ∷ frames) f rid e = all_opened_stay frames (frame_left frame f) rid (opened_stays frame f rid e)

-- what a side owns is what its frames opened, and more while a message is owed
owned : (side : Side) (s : LogState) (f : FrameState) (owes : Option Owed) (rid : ℤ) → OwesFine side f (has_of s) owes → has_rid rid f.opened ≡ true → has_rid rid s.tables.pipes.own ≡ true
owned side s f None rid h e = ap (has_rid rid) (sym h.opened) ∙ e
owned side s f (Some owed) rid h e = ap (has_rid rid) (sym h.goes.agrees.opened) ∙ all_opened_stay owed.before f rid e

-- ---- pipes that a side writes to

abbrev InPipes : Rids → List ℤ → Type 0
InPipes rids named = AllByRecursion (λ rid. has_rid rid rids ≡ true) named

in_both : (rids : Rids) (xs ys : List ℤ) → InPipes rids xs → InPipes rids ys → InPipes rids (xs ++ ys)
in_both rids [] ys h k = k
in_both rids (x ∷ xs) ys h k = (h.0, in_both rids xs ys h.1 k)

fills_unpiped : (rid : ℤ) (pieces : List Run) (bytes : List ℕ) → flat_map piped_by (fills rid pieces bytes) ≡ []
fills_unpiped rid [] bytes = refl
fills_unpiped rid (piece ∷ pieces) bytes = fills_unpiped rid pieces _

ending_unpiped : (shown : Option (List ℕ)) → flat_map piped_by (ending shown) ≡ []
ending_unpiped None = refl
ending_unpiped (Some message) = refl

group_unpiped : (owed : Owed) (copies : List CopyRecord) (frames : List Frame) → OwedGood owed → IsGroup owed copies frames → flat_map piped_by frames ≡ []
group_unpiped owed copies frames good group =
    let bytes : List ℕ = words_bytes (words_in copies) in
    ap (flat_map piped_by) group.is
    ∙ flat_map-append piped_by owed.before (fills owed.rid owed.pieces bytes ++ ending owed.shown)
    ∙ ap (λ (rs : List ℤ). rs ++ flat_map piped_by (fills owed.rid owed.pieces bytes ++ ending owed.shown)) good.unpiped
    ∙ flat_map-append piped_by (fills owed.rid owed.pieces bytes) (ending owed.shown)
    ∙ ap (λ (rs : List ℤ). rs ++ flat_map piped_by (ending owed.shown)) (fills_unpiped owed.rid owed.pieces bytes)
    ∙ ending_unpiped owed.shown

lone_piped : (s : LogState) (frame : Frame) → is_lone s.tables s.taking frame ≡ true → InPipes s.tables.pipes.other (piped_by frame)
lone_piped s (PipeTransfer rid bytes) e =
    ((and_parts (has_rid rid s.tables.pipes.other) _ (and_parts (has_rid rid s.taking.held) _ (and_parts (may_write s.tables.pipes s.taking.held rid) _ e).0).1).0, tt)
lone_piped s (PipeShutW rid) e =
    ((and_parts (has_rid rid s.tables.pipes.other) _ (and_parts (has_rid rid s.taking.held) _ (and_parts (may_write s.tables.pipes s.taking.held rid) _ e).0).1).0, tt)
lone_piped s (PipeShutR rid) e = tt
lone_piped s (Close reason) e = tt
lone_piped s _ e = absurd (false≢true e)

made_piped : (s : LogState) (owes : Option Owed) (frames : List Frame) (copies : List CopyRecord) → MatchOption owes (Unit {0}) OwedGood → MayMake s owes frames copies
    → InPipes s.tables.pipes.other (flat_map piped_by frames)
made_piped s (Some owed) frames copies good may =
    let P : List ℤ → Type 0 = λ rs. InPipes s.tables.pipes.other rs in subst P (sym (group_unpiped owed copies frames good may)) tt
made_piped s None [] copies good may = absurd may
made_piped s None (frame ∷ []) copies good may = in_both s.tables.pipes.other (piped_by frame) [] (lone_piped s frame may.1.may) tt
made_piped s None (frame ∷ next ∷ frames) copies good may = absurd may

-- a pipe that the other side opened stays
other_stays : (s : LogState) (story : List Mark) (rid : ℤ) → Logs s story → has_rid rid s.tables.pipes.other ≡ true → has_rid rid (log_after s story).tables.pipes.other ≡ true
other_stays s story rid logs e =
    ap (λ (f : FrameState). has_rid rid f.opened) (left_after s story logs) ∙ all_opened_stay (accepted_in story) (as_left s) rid e

others_stay : (s : LogState) (story : List Mark) (named : List ℤ) → Logs s story → InPipes s.tables.pipes.other named → InPipes (log_after s story).tables.pipes.other named
others_stay s story [] logs h = tt
others_stay s story (rid ∷ rids) logs h = (other_stays s story rid logs h.0, others_stay s story rids logs h.1)

piped_from : (side : Side) (s : LogState) (story : List Mark) → Sound side s → Logs s story → InPipes (log_after s story).tables.pipes.other (flat_map piped_by (made_in story))
piped_from side s [] sound logs = tt
piped_from side s (Taken message handle segments ∷ story) sound logs =
    piped_from side (log_next s (Taken message handle segments)) story (sound_next side s (Taken message handle segments) sound logs.0) logs.1
piped_from side s (Heard frame ∷ story) sound logs = piped_from side (log_next s (Heard frame)) story (sound_next side s (Heard frame) sound logs.0) logs.1
piped_from side s (Dropped rid ∷ story) sound logs = piped_from side (log_next s (Dropped rid)) story (sound_next side s (Dropped rid) sound logs.0) logs.1
piped_from side s (Grouped frames copies ∷ story) sound logs =
    let mark : Mark = Grouped frames copies in
    let others : Rids = (log_after s (mark ∷ story)).tables.pipes.other in
    let P : List ℤ → Type 0 = λ rs. InPipes others rs in
    subst P (sym (flat_map-append piped_by frames (made_in story)))
    (in_both others (flat_map piped_by frames) (flat_map piped_by (made_in story))
    (others_stay s (mark ∷ story) (flat_map piped_by frames) logs (made_piped s s.owes frames copies sound.owes logs.0))
    (piped_from side (log_next s mark) story (sound_next side s mark sound logs.0) logs.1))

-- ---- of two sides

fine_at : (side : Side) (f : FrameState) (xs ys : List Frame) (frame : Frame) → AllFine side f (xs ++ frame ∷ ys) → Fine side (frames_left xs f) frame
fine_at side f [] ys frame h = h.0
fine_at side f (x ∷ xs) ys frame h = fine_at side (frame_left x f) xs ys frame h.1

first_in : (rids : Rids) (xs ys : List ℤ) → InPipes rids (xs ++ ys) → InPipes rids xs
first_in rids [] ys h = tt
first_in rids (x ∷ xs) ys h = (h.0, first_in rids xs ys h.1)

rest_in : (rids : Rids) (xs ys : List ℤ) → InPipes rids (xs ++ ys) → InPipes rids ys
rest_in rids [] ys h = h
rest_in rids (x ∷ xs) ys h = rest_in rids xs ys h.1

piped_at : (rids : Rids) (xs ys : List Frame) (frame : Frame) → InPipes rids (flat_map piped_by (xs ++ frame ∷ ys)) → InPipes rids (piped_by frame)
piped_at rids [] ys frame h = first_in rids (piped_by frame) (flat_map piped_by ys) h
piped_at rids (x ∷ xs) ys frame h = piped_at rids xs ys frame (rest_in rids (piped_by x) (flat_map piped_by (xs ++ frame ∷ ys)) h)

-- what the writer opened of what it writes to, the reader owns
reader_owns : (side : Side) (writer reader : List Mark) (rid : ℤ) → IsStory side writer → IsStory (other_side side) reader → Hears writer reader
    → has_rid rid (now side writer).tables.pipes.other ≡ true → has_rid rid (now (other_side side) reader).tables.pipes.own ≡ true
reader_owns side writer reader rid wrote read hears e =
    let opened : has_rid rid (frames_left (accepted_in writer) none_left).opened ≡ true =
    ap (λ (f : FrameState). has_rid rid f.opened) (sym (left_after (log_new side) writer wrote)) ∙ e in
    let more : has_rid rid (frames_left (made_in reader) none_left).opened ≡ true =
    ap (λ (fs : List Frame). has_rid rid (frames_left fs none_left).opened) (sym hears.is)
    ∙ ap (λ (f : FrameState). has_rid rid f.opened) (left-append (accepted_in writer) hears.rest none_left)
    ∙ all_opened_stay hears.rest (frames_left (accepted_in writer) none_left) rid opened in
    owned (other_side side) (now (other_side side) reader) (frames_left (made_in reader) none_left) (now (other_side side) reader).owes rid (writes (other_side side) reader read).owed more

own_pipe : (own others : Rids) (frame : Frame) → ((rid : ℤ) → has_rid rid others ≡ true → has_rid rid own ≡ true) → InPipes others (piped_by frame) → OwnPipe own frame
own_pipe own others (PipeTransfer rid bytes) h e = h rid e.0
own_pipe own others (PipeShutW rid) h e = h rid e.0
own_pipe own others (PipeShutR rid) h e = tt
own_pipe own others _ h e = tt

pub content_is_fine : ContentIsFine
content_is_fine side writer reader frame later wrote read made hears =
    let r : LogState = now (other_side side) reader in
    let A : List Frame → Type 0 = λ fs. AllFine side none_left fs in
    let I : List Frame → Type 0 = λ fs. InPipes (now side writer).tables.pipes.other (flat_map piped_by fs) in
    let F : FrameState → Type 0 = λ f. Fine side f frame in
    let fine : Fine side (frames_left (accepted_in reader) none_left) frame = fine_at side none_left (accepted_in reader) later frame (subst A made (writes side writer wrote).fine) in
    let piped = piped_at (now side writer).tables.pipes.other (accepted_in reader) later frame (subst I made (piped_from side (log_new side) writer (sound_new side) wrote)) in
    fine_passes r side frame (sound_now (other_side side) reader read).tables.0
    (subst F (sym (left_after (log_new (other_side side)) reader read)) fine)
    (own_pipe r.tables.pipes.own (now side writer).tables.pipes.other frame (λ rid e. reader_owns side writer reader rid wrote read hears e) piped)
