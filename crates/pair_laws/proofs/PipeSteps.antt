-- What happens at the pipes of a side along its story, one step after another.
use Rattle.std.proofs.Common.{◌≡◌, ℕ, Bool, true, false, not, cond, ◌||◌, List, [], ◌∷◌, ◌++◌, ℤ, Option, Some, None, option_map, option_to_list, Result, Ok, Err, refl, sym, ap, ◌∙◌, subst}
use Rattle.std.proofs.lemmas.Bool.{false≢true, and_parts, not-true}
use Rattle.std.proofs.lemmas.Grind.{flat_map-append}
use Rattle.std.proofs.lemmas.List.{append-nil}
use Rattle.std.specs.List.{AllByRecursion, flat_map}
use Rattle.wp_outside.specs.declared.pipe_items.PipeItem.{PipeItem}
use Rattle.wp_outside.specs.declared.pipe_items.PipeItem.TheVariants as pipe_items
use Rattle.wl_wire.specs.declared.faults.ObjectFault.{ObjectFault}
use Rattle.wl_wire.specs.Wire.{cut}
use Rattle.wl_tables.specs.declared.way.Way.{Way}
use Rattle.wl_objects.specs.Entries.{Tracked}
use Rattle.wl_objects.specs.Tracking.{Admission, step}
use Rattle.handle_table.specs.Table.{Table, kind_of_rid}
use Rattle.handle_table.specs.declared.handles.Handle.{Handle}
use Rattle.block_intervals.specs.declared.run.Run.{Run}
use Rattle.wp_outside.specs.declared.kinds.HandleKind.{HandleKind}
use Rattle.transfer_frames.specs.declared.cause.FrameCause.{FrameCause}
use Rattle.transfer_frames.specs.declared.cause.FrameCause.TheVariants.{RidCount}
use Rattle.transfer_frames.specs.declared.frame.Frame.{Frame}
use Rattle.transfer_frames.specs.declared.frame.Frame.TheVariants.{Protocol, Inject, OpenFile, ExtendFile, Fill, OpenPipe, PipeTransfer, PipeShutR, PipeShutW, Ack, Restart, Close}
use Rattle.half_model.specs.declared.items.PeerOut.{PeerOut}
use Rattle.half_model.specs.declared.items.PeerOut.TheVariants as items
use Rattle.half_model.specs.declared.notes.CopyRecord.{CopyRecord}
use Rattle.half_model.specs.Content.{Passage, has_kind, passed_with, passed_by_kind, passed_step, pass_all, passage_of, heard, heard_messages}
use Rattle.half_model.specs.Filling.{fills, ending, words_bytes}
use Rattle.half_model.specs.Group.{Owed, words_in}
use Rattle.half_model.specs.Log.{Mark, Taken, Heard, Grouped, Dropped, LogState, MayTake, MayHear, is_lone, MayMake, Lawful, after_lone, after_group, log_next, Logs, log_after}
use Rattle.half_model.specs.PipeTurn.{may_write}
use Rattle.half_model.specs.Planning.{Plan, Refusal, plan, kind_carried, sized_by, is_new_pipe, pipe_opened, with_pipe, injected, tell_in}
use Rattle.half_model.specs.Shm.{Passing, Tell, grows}
use Rattle.half_model.specs.Sides.{other_way}
use Rattle.half_model.specs.Story.{made_by, heard_by, made_in, heard_in, given_by, items_from}
use Rattle.half_model.proofs.Passages.{goes_ok, chosen_ok, same_passage, passage_new, accepted}
use Rattle.half_model.proofs.ShownLaws.{group_owes}
use Rattle.half_model.proofs.Sound.{passed, after_taken}
use Rattle.mirror_pools.specs.Sizes.{ToldSizes}
use Rattle.pipe_relay.specs.Pipes.{Rids, PipesState, has_rid, with_own, is_of_pipe, is_no_end, item_of_frame}
use Rattle.pipe_relay.specs.Rows.{PipeStep, OpensOwn, OpensOther, Puts, Hears}
use Rattle.pair_laws.proofs.PipeRows.{Runs, runs_both, runs_none, pipe_items-append}
use Rattle.pair_laws.specs.PipeRuns.{of_pipes, pipe_items_in}

-- ---- the steps of a mark

-- a write end that is passed is opened
abbrev opened_by : Frame → List PipeStep
opened_by (OpenPipe rid) = OpensOwn rid ∷ []
opened_by frame = []

abbrev opened_in : List Frame → List PipeStep
opened_in frames = flat_map opened_by frames

abbrev heard_steps : Frame → List PipeStep
heard_steps (OpenPipe rid) = OpensOther rid ∷ []
heard_steps (PipeTransfer rid bytes) = Hears (PipeTransfer rid bytes) ∷ []
heard_steps (PipeShutR rid) = Hears (PipeShutR rid) ∷ []
heard_steps (PipeShutW rid) = Hears (PipeShutW rid) ∷ []
heard_steps frame = []

abbrev put_steps : Frame → List PipeStep
put_steps (PipeTransfer rid bytes) = Puts (pipe_items.Bytes rid bytes) ∷ []
put_steps (PipeShutR rid) = Puts (pipe_items.Shut rid) ∷ []
put_steps (PipeShutW rid) = Puts (pipe_items.End rid) ∷ []
put_steps frame = []

abbrev planned_steps : Result Plan Refusal → List PipeStep
planned_steps (Ok it) = opened_in it.before
planned_steps (Err refusal) = []

abbrev pub steps_by : LogState → Mark → List PipeStep
steps_by s (Taken message handle segments) = planned_steps (plan s.tables s.shm message handle)
steps_by s (Heard frame) = heard_steps frame
steps_by s (Grouped frames copies) = flat_map put_steps frames
steps_by s (Dropped rid) = Puts (pipe_items.End rid) ∷ []

abbrev pub steps_from : LogState → List Mark → List PipeStep
steps_from s [] = []
steps_from s (mark ∷ marks) = steps_by s mark ++ steps_from (log_next s mark) marks

-- ---- frames of a message

-- none of them speaks of an open pipe
abbrev ArePlain : List Frame → Type 0
ArePlain frames = AllByRecursion (λ frame. is_of_pipe frame ≡ false) frames

plain_both : (xs ys : List Frame) → ArePlain xs → ArePlain ys → ArePlain (xs ++ ys)
plain_both [] ys h k = k
plain_both (x ∷ xs) ys h k = (h.0, plain_both xs ys h.1 k)

plain_one : (frame : Frame) → is_of_pipe frame ≡ false → put_steps frame ≡ []
plain_one (PipeTransfer rid bytes) e = absurd (false≢true (sym e))
plain_one (PipeShutR rid) e = absurd (false≢true (sym e))
plain_one (PipeShutW rid) e = absurd (false≢true (sym e))
plain_one _ e = refl

plain_steps : (frames : List Frame) → ArePlain frames → flat_map put_steps frames ≡ []
plain_steps [] h = refl
plain_steps (frame ∷ frames) h = ap (λ (ss : List PipeStep). ss ++ flat_map put_steps frames) (plain_one frame h.0) ∙ plain_steps frames h.1

plain_none : (frames : List Frame) → ArePlain frames → of_pipes frames ≡ []
plain_none [] h = refl
plain_none (frame ∷ frames) h = ap (λ (b : Bool). cond b (frame ∷ of_pipes frames) (of_pipes frames)) h.0 ∙ plain_none frames h.1

plain_fills : (rid : ℤ) (pieces : List Run) (bytes : List ℕ) → ArePlain (fills rid pieces bytes)
plain_fills rid [] bytes = tt
plain_fills rid (piece ∷ pieces) bytes = (refl, plain_fills rid pieces _)

plain_ending : (shown : Option (List ℕ)) → ArePlain (ending shown)
plain_ending None = tt
plain_ending (Some message) = (refl, tt)

plain_sized : (tell : Option Tell) (told : ToldSizes) → ArePlain (sized_by tell told)
plain_sized None told = tt
plain_sized (Some tell) told = by (grows tell told) tell.is_new
  where
    by : (b new : Bool) → ArePlain (cond b (cond new (OpenFile tell.file.rid tell.size) (ExtendFile tell.file.rid tell.size) ∷ []) [])
    by true true = (refl, tt)
    by true false = (refl, tt)
    by false new = tt

plain_injected : (passing : Option Passing) → ArePlain (injected passing)
plain_injected None = tt
plain_injected (Some it) = (refl, tt)

plain_opened : (passing : Option Passing) → ArePlain (pipe_opened passing)
plain_opened None = tt
plain_opened (Some it) = by (is_new_pipe it)
  where
    by : (b : Bool) → ArePlain (cond b (OpenPipe it.rid ∷ []) [])
    by true = (refl, tt)
    by false = tt

-- what a side owes has only such frames
abbrev pub OwesPlain : Option Owed → Type 0
OwesPlain None = Unit {0}
OwesPlain (Some owed) = ArePlain owed.before

-- ---- a message is taken

opened-sized : (tell : Option Tell) (told : ToldSizes) → opened_in (sized_by tell told) ≡ []
opened-sized None told = refl
opened-sized (Some tell) told = by (grows tell told) tell.is_new
  where
    by : (b new : Bool) → opened_in (cond b (cond new (OpenFile tell.file.rid tell.size) (ExtendFile tell.file.rid tell.size) ∷ []) []) ≡ []
    by true true = refl
    by true false = refl
    by false new = refl

opened-injected : (passing : Option Passing) → opened_in (injected passing) ≡ []
opened-injected None = refl
opened-injected (Some it) = refl

opened_before : (passing : Option Passing) (tell : Option Tell) (told : ToldSizes) → opened_in (pipe_opened passing ++ (sized_by tell told ++ injected passing)) ≡ opened_in (pipe_opened passing)
opened_before passing tell told =
    flat_map-append opened_by (pipe_opened passing) (sized_by tell told ++ injected passing)
    ∙ ap (λ (ss : List PipeStep). opened_in (pipe_opened passing) ++ ss)
    (flat_map-append opened_by (sized_by tell told) (injected passing) ∙ ap (λ (ss : List PipeStep). ss ++ opened_in (injected passing)) (opened-sized tell told) ∙ opened-injected passing)
    ∙ append-nil (opened_in (pipe_opened passing))

runs_opened : (passing : Option Passing) (pipes : PipesState) → Runs pipes (with_pipe passing pipes) (opened_in (pipe_opened passing)) [] [] []
runs_opened None pipes = runs_none pipes
runs_opened (Some it) pipes = by (is_new_pipe it)
  where
    by : (b : Bool) → Runs pipes (cond b (with_own it.rid pipes) pipes) (opened_in (cond b (OpenPipe it.rid ∷ []) [])) [] [] []
    by true = record { happens = (tt, tt); made_is = refl; heard_is = refl; gives = refl; leaves = refl }
    by false = record { happens = tt; made_is = refl; heard_is = refl; gives = refl; leaves = refl }

-- a mark, with what it makes, hears and gives
abbrev RunsMark : LogState → Mark → Type 0
RunsMark s mark = Runs s.tables.pipes (log_next s mark).tables.pipes (steps_by s mark) (made_by mark) (heard_by mark) (given_by s mark)

runs_taken : (s : LogState) (message : List ℕ) (handle : Option Handle) (segments : List ℕ) → MayTake s message handle segments
    → RunsMark s (Taken message handle segments) × OwesPlain (log_next s (Taken message handle segments)).owes
runs_taken s message handle segments may =
    let p = passed s message handle segments may in
    let planned = p.is_planned in
    let passing : Option Passing = planned.passing in
    let tell : Option Tell = tell_in s.tables s.shm message p.done passing in
    let before : p.it.before ≡ pipe_opened passing ++ (sized_by tell s.shm.told ++ injected passing) = ap (λ (it : Plan). it.before) (sym planned.is) in
    let steps : planned_steps (plan s.tables s.shm message handle) ≡ opened_in (pipe_opened passing) =
    ap planned_steps p.is ∙ ap opened_in before ∙ opened_before passing tell s.shm.told in
    let after : (log_next s (Taken message handle segments)).tables.pipes ≡ with_pipe passing s.tables.pipes =
    ap (λ (t : LogState). t.tables.pipes) (after_taken s message handle segments p) ∙ ap (λ (it : Plan). it.tables.pipes) (sym planned.is) in
    let plain : ArePlain (pipe_opened passing ++ (sized_by tell s.shm.told ++ injected passing)) =
    plain_both (pipe_opened passing) (sized_by tell s.shm.told ++ injected passing) (plain_opened passing) (plain_both (sized_by tell s.shm.told) (injected passing) (plain_sized tell s.shm.told) (plain_injected passing)) in (
      subst (λ (q : PipesState). Runs s.tables.pipes q (planned_steps (plan s.tables s.shm message handle)) [] [] []) (sym after)
          (subst (λ (ss : List PipeStep). Runs s.tables.pipes (with_pipe passing s.tables.pipes) ss [] [] []) (sym steps) (runs_opened passing s.tables.pipes)),
      subst (λ (t : LogState). OwesPlain t.owes) (sym (after_taken s message handle segments p)) (subst (λ (fs : List Frame). ArePlain fs) (sym before) plain),
    )

-- ---- a frame is heard

still : (given : List PeerOut) (handle : Handle) (message : List ℕ) → pipe_items_in (given ++ items.Handle handle ∷ items.Bytes message ∷ []) ≡ pipe_items_in given
still given handle message = pipe_items-append given (items.Handle handle ∷ items.Bytes message ∷ []) ∙ append-nil (pipe_items_in given)

still_alone : (given : List PeerOut) (message : List ℕ) → pipe_items_in (given ++ items.Bytes message ∷ []) ≡ pipe_items_in given
still_alone given message = pipe_items-append given (items.Bytes message ∷ []) ∙ append-nil (pipe_items_in given)

silent_with : (tracked : Tracked) (message : List ℕ) (kind : HandleKind) (now after : Passage) (handles : Table) (rids : List ℤ)
    → passed_with tracked message kind now handles rids ≡ Ok after → pipe_items_in after.given ≡ pipe_items_in now.given
silent_with tracked message kind now after handles [] e = absurd cc
silent_with tracked message kind now after handles (rid ∷ rids) e =
    ap (λ (p : Passage). pipe_items_in p.given) (sym (chosen_ok (has_kind kind (kind_of_rid handles rid)) _ after RidCount e).1)
    ∙ still now.given (record { number = rid; kind = kind }) message

silent_by_kind : (kind : Option HandleKind) (tracked : Tracked) (message : List ℕ) (now after : Passage) (handles : Table)
    → passed_by_kind kind tracked message now handles ≡ Ok after → pipe_items_in after.given ≡ pipe_items_in now.given
silent_by_kind None tracked message now after handles e =
    ap (λ (p : Passage). pipe_items_in p.given) (sym (same_passage _ after _ refl e)) ∙ still_alone now.given message
silent_by_kind (Some kind) tracked message now after handles e = silent_with tracked message kind now after handles now.waiting e

silent_step : (told : Result Admission ObjectFault) (way : Way) (message : List ℕ) (now after : Passage) (handles : Table)
    → passed_step told way message now handles ≡ Ok after → pipe_items_in after.given ≡ pipe_items_in now.given
silent_step (Ok done) way message now after handles e = silent_by_kind (kind_carried way done.passed) done.objects message now after handles e
silent_step (Err fault) way message now after handles e = absurd cc

-- messages give no item of a pipe
silent_messages : (way : Way) (handles : Table) (messages : List (List ℕ)) (now after : Passage) → pass_all way handles messages now ≡ Ok after → pipe_items_in after.given ≡ pipe_items_in now.given
silent_messages way handles [] now after e = ap (λ (p : Passage). pipe_items_in p.given) (sym (same_passage now after _ refl e))
silent_messages way handles (message ∷ messages) now after e =
    let got = goes_ok (passed_step (step way now.tracked message) way message now handles) (pass_all way handles messages) after e in
    silent_messages way handles messages got.0 after got.2 ∙ silent_step (step way now.tracked message) way message now got.0 handles got.1

told_item : (item : Option PipeItem) → option_to_list item ≡ pipe_items_in (option_to_list (option_map (λ it. items.Pipe it) item))
told_item None = refl
told_item (Some item) = refl

heard_pipes : (s : LogState) (told : Result Passage FrameCause) → (heard_messages s.tables s.taking told).tables.pipes ≡ s.tables.pipes
heard_pipes s (Ok now) = refl
heard_pipes s (Err cause) = refl

-- a step that hears a frame of a pipe
given_item : (s : LogState) (frame : Frame) (item : Option PipeItem) → option_to_list item ++ [] ≡ pipe_items_in (option_to_list (option_map (λ it. items.Pipe it) item))
given_item s frame item = append-nil (option_to_list item) ∙ told_item item

runs_heard : (s : LogState) (frame : Frame) → MayHear s frame → RunsMark s (Heard frame)
runs_heard s (Protocol bytes) may =
    let a = accepted s.tables s.taking bytes may.accepted in
    let given : pipe_items_in (heard s.tables s.taking (Protocol bytes)).given ≡ [] =
    ap (λ (r : Result Passage FrameCause). pipe_items_in (heard_messages s.tables s.taking r).given) a.is
    ∙ silent_messages (other_way s.tables.handles.side) s.tables.handles (cut bytes) (passage_new s.tables s.taking) a.after a.all in
    record { happens = tt; made_is = refl; heard_is = refl; gives = sym given; leaves = sym (heard_pipes s (passage_of s.tables s.taking bytes)) }
runs_heard s (Inject rids) may = record { happens = tt; made_is = refl; heard_is = refl; gives = refl; leaves = refl }
runs_heard s (OpenFile rid size) may = record { happens = tt; made_is = refl; heard_is = refl; gives = refl; leaves = refl }
runs_heard s (ExtendFile rid size) may = record { happens = tt; made_is = refl; heard_is = refl; gives = refl; leaves = refl }
runs_heard s (Fill rid start end bytes) may = record { happens = tt; made_is = refl; heard_is = refl; gives = refl; leaves = refl }
runs_heard s (OpenPipe rid) may = record { happens = (tt, tt); made_is = refl; heard_is = refl; gives = refl; leaves = refl }
runs_heard s (PipeTransfer rid bytes) may = record { happens = (may.accepted, tt); made_is = refl; heard_is = refl; gives = given_item s (PipeTransfer rid bytes) (item_of_frame s.tables.pipes (PipeTransfer rid bytes)); leaves = refl }
runs_heard s (PipeShutR rid) may = record { happens = (may.accepted, tt); made_is = refl; heard_is = refl; gives = refl; leaves = refl }
runs_heard s (PipeShutW rid) may = record { happens = (may.accepted, tt); made_is = refl; heard_is = refl; gives = given_item s (PipeShutW rid) (item_of_frame s.tables.pipes (PipeShutW rid)); leaves = refl }
runs_heard s (Ack count) may = record { happens = tt; made_is = refl; heard_is = refl; gives = refl; leaves = refl }
runs_heard s (Restart token connection received) may = record { happens = tt; made_is = refl; heard_is = refl; gives = refl; leaves = refl }
runs_heard s (Close reason) may = record { happens = tt; made_is = refl; heard_is = refl; gives = refl; leaves = refl }

-- ---- frames are made, and an end is dropped

known_end : (given closed : Bool) → given ≡ true → closed ≡ false → (not given) || closed ≡ false
known_end true false e f = refl
known_end true true e f = absurd (false≢true (sym f))
known_end false closed e f = absurd (false≢true e)

-- the peer holds the write end
writes_known : (pipes : PipesState) (held : Rids) (rid : ℤ) → may_write pipes held rid ≡ true → is_no_end pipes.other pipes.closed rid ≡ false
writes_known pipes held rid e =
    let first = and_parts (has_rid rid held) _ e in
    let second = and_parts (has_rid rid pipes.other) _ first.1 in
    known_end (has_rid rid pipes.other) (has_rid rid pipes.closed) second.0 (not-true _ second.1)

made_if : (b : Bool) (frame : Frame) → b ≡ false → option_to_list (cond b None (Some frame)) ++ [] ≡ frame ∷ []
made_if false frame e = refl
made_if true frame e = absurd (false≢true (sym e))

made_none : (b : Bool) (frame : Frame) → b ≡ true → option_to_list (cond b None (Some frame)) ++ [] ≡ []
made_none true frame e = refl
made_none false frame e = absurd (false≢true e)

runs_lone : (s : LogState) (frame : Frame) → is_lone s.tables s.taking frame ≡ true → Runs s.tables.pipes (after_lone s frame).tables.pipes (flat_map put_steps (frame ∷ [])) (frame ∷ []) [] []
runs_lone s (Close reason) e = record { happens = tt; made_is = refl; heard_is = refl; gives = refl; leaves = refl }
runs_lone s (PipeTransfer rid bytes) e =
    let both = and_parts (may_write s.tables.pipes s.taking.held rid) _ e in
    record {
      happens = (writes_known s.tables.pipes s.taking.held rid both.0, tt);
      made_is = made_if (has_rid rid s.tables.pipes.shut) (PipeTransfer rid bytes) (not-true _ both.1);
      heard_is = refl;
      gives = refl;
      leaves = refl;
    }
runs_lone s (PipeShutW rid) e =
    let both = and_parts (may_write s.tables.pipes s.taking.held rid) _ e in
    record {
      happens = (writes_known s.tables.pipes s.taking.held rid both.0, tt);
      made_is = made_if (has_rid rid s.tables.pipes.shut) (PipeShutW rid) (not-true _ both.1);
      heard_is = refl;
      gives = refl;
      leaves = refl;
    }
runs_lone s (PipeShutR rid) e =
    let both = and_parts (has_rid rid s.tables.pipes.own) _ e in
    record {
      happens = (known_end (has_rid rid s.tables.pipes.own) (has_rid rid s.tables.pipes.left) both.0 (not-true _ both.1), tt);
      made_is = refl;
      heard_is = refl;
      gives = refl;
      leaves = refl;
    }
runs_lone s _ e = absurd (false≢true e)

runs_plain : (pipes : PipesState) (frames : List Frame) → ArePlain frames → Runs pipes pipes (flat_map put_steps frames) frames [] []
runs_plain pipes frames h =
    subst (λ (ss : List PipeStep). Runs pipes pipes ss frames [] []) (sym (plain_steps frames h))
    (record { happens = tt; made_is = sym (plain_none frames h); heard_is = refl; gives = refl; leaves = refl })

runs_made : (s : LogState) (owes : Option Owed) (frames : List Frame) (copies : List CopyRecord) → OwesPlain owes → MayMake s owes frames copies
    → Runs s.tables.pipes (after_group s owes frames).tables.pipes (flat_map put_steps frames) frames [] []
runs_made s (Some owed) frames copies plain may =
    let bytes : List ℕ = words_bytes (words_in copies) in
    let all : ArePlain frames =
    subst (λ (fs : List Frame). ArePlain fs) (sym may.is)
    (plain_both owed.before (fills owed.rid owed.pieces bytes ++ ending owed.shown) plain (plain_both (fills owed.rid owed.pieces bytes) (ending owed.shown) (plain_fills owed.rid owed.pieces bytes) (plain_ending owed.shown))) in
    runs_plain s.tables.pipes frames all
runs_made s None [] copies plain may = absurd may
runs_made s None (frame ∷ []) copies plain may = runs_lone s frame may.1.may
runs_made s None (frame ∷ next ∷ frames) copies plain may = absurd may

runs_dropped : (s : LogState) (rid : ℤ) → Lawful s (Dropped rid) → RunsMark s (Dropped rid)
runs_dropped s rid e =
    let both = and_parts (may_write s.tables.pipes s.taking.held rid) _ e in
    record {
      happens = (writes_known s.tables.pipes s.taking.held rid both.0, tt);
      made_is = made_none (has_rid rid s.tables.pipes.shut) (PipeShutW rid) both.1;
      heard_is = refl;
      gives = refl;
      leaves = refl;
    }

-- ---- a story

pub runs_mark : (s : LogState) (mark : Mark) → OwesPlain s.owes → Lawful s mark → RunsMark s mark × OwesPlain (log_next s mark).owes
runs_mark s (Taken message handle segments) plain may = runs_taken s message handle segments may
runs_mark s (Heard frame) plain may = (runs_heard s frame may, plain)
runs_mark s (Grouped frames copies) plain may = (runs_made s s.owes frames copies plain may, subst (λ (o : Option Owed). OwesPlain o) (sym (group_owes s s.owes frames refl)) tt)
runs_mark s (Dropped rid) plain may = (runs_dropped s rid may, plain)

pub runs_story : (s : LogState) (story : List Mark) → OwesPlain s.owes → Logs s story
    → Runs s.tables.pipes (log_after s story).tables.pipes (steps_from s story) (made_in story) (heard_in story) (items_from s story)
runs_story s [] plain logs = runs_none s.tables.pipes
runs_story s (mark ∷ story) plain logs =
    let one = runs_mark s mark plain logs.0 in
    runs_both one.0 (runs_story (log_next s mark) story one.1 logs.1)
