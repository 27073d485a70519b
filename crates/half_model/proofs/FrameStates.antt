-- What the counted frames that a side hears leave with it, by the frames alone: the rids that are open with their kinds, the sizes, and the pipes.
use Rattle.std.proofs.Common.{◌≡◌, ℕ, List, [], ◌∷◌, ◌++◌, ℤ, true, false, cond, Option, Some, None, Result, Ok, Err, refl, sym, ap, ◌∙◌}
use Rattle.std.specs.BTreeMap.{insert_entry}
use Rattle.std.specs.Map.{lookup}
use Rattle.std.specs.Ordering.{int_cmp, int_eq}
use Rattle.wp_outside.specs.declared.kinds.HandleKind.{HandleKind}
use Rattle.wp_outside.specs.declared.kinds.HandleKind.TheVariants.{File, PipeWrite}
use Rattle.handle_table.specs.declared.handles.Handle.{Handle}
use Rattle.pair_model.specs.Rows.{counted}
use Rattle.transfer_frames.specs.declared.cause.FrameCause.{FrameCause}
use Rattle.transfer_frames.specs.declared.frame.Frame.{Frame}
use Rattle.transfer_frames.specs.declared.frame.Frame.TheVariants.{Protocol, Inject, OpenFile, ExtendFile, Fill, OpenPipe, PipeTransfer, PipeShutR, PipeShutW, Ack, Restart, Close}
use Rattle.half_model.specs.Content.{Passage, passage_of, heard_messages}
use Rattle.half_model.specs.Group.{Owed}
use Rattle.half_model.specs.Log.{Mark, Taken, Heard, Grouped, Dropped, LogState, MayTake, after_lone, after_group, log_next, Logs, log_after}
use Rattle.pipe_relay.specs.Pipes.{Rids, with_rid, PipesState, with_own}
use Rattle.half_model.specs.Planning.{Plan, passed_with, with_pipe, is_new_pipe}
use Rattle.half_model.specs.Shm.{Passing}
use Rattle.mirror_pools.specs.Sizes.{ToldSizes, with_size}
use Rattle.half_model.specs.Story.{accepted_in, heard_in}
use Rattle.half_model.specs.Tables.{Tables}
use Rattle.half_model.proofs.Sound.{passed, after_taken}

pub record FrameState : Type 0 where
  pub kept : List (ℤ × HandleKind)
  pub sizes : ToldSizes
  pub opened : Rids
  pub ended : Rids
  pub shut : Rids

abbrev pub none_left : FrameState
none_left = record { kept = []; sizes = []; opened = []; ended = []; shut = [] }

abbrev pub with_kept : ℤ → HandleKind → FrameState → FrameState
with_kept rid kind f = record f { kept = insert_entry int_cmp f.kept rid kind }

abbrev pub frame_left : Frame → FrameState → FrameState
frame_left (OpenFile rid size) f = record (with_kept rid File f) { sizes = with_size rid size f.sizes }
frame_left (ExtendFile rid size) f = record f { sizes = with_size rid size f.sizes }
frame_left (OpenPipe rid) f = record (with_kept rid PipeWrite f) { opened = with_rid rid f.opened }
frame_left (PipeShutW rid) f = record f { ended = with_rid rid f.ended }
frame_left (PipeShutR rid) f = record f { shut = with_rid rid f.shut }
frame_left frame f = f

abbrev pub frames_left : List Frame → FrameState → FrameState
frames_left [] f = f
frames_left (frame ∷ frames) f = frames_left frames (frame_left frame f)

pub left-append : (xs ys : List Frame) (f : FrameState) → frames_left (xs ++ ys) f ≡ frames_left ys (frames_left xs f)
left-append [] ys f = refl
left-append (x ∷ xs) ys f = left-append xs ys (frame_left x f)

-- the kind of a rid that is open
abbrev pub kind_in : FrameState → ℤ → Option HandleKind
kind_in f rid = lookup (int_eq rid) f.kept

-- ---- a side has it

abbrev pub as_left : LogState → FrameState
as_left s = record {
  kept = s.tables.handles.kept;
  sizes = s.taking.sizes;
  opened = s.tables.pipes.other;
  ended = s.tables.pipes.ended;
  shut = s.tables.pipes.shut;
}

messages_leave : (s : LogState) (told : Result Passage FrameCause)
    → (let h = heard_messages s.tables s.taking told in let f : FrameState = record { kept = h.tables.handles.kept; sizes = h.taking.sizes; opened = h.tables.pipes.other; ended = h.tables.pipes.ended; shut = h.tables.pipes.shut } in f) ≡ as_left s
messages_leave s (Ok after) = refl
messages_leave s (Err cause) = refl

left_heard : (s : LogState) (frame : Frame) → as_left (log_next s (Heard frame)) ≡ frame_left frame (as_left s)
left_heard s (Protocol bytes) = messages_leave s (passage_of s.tables s.taking bytes)
left_heard s (Inject rids) = refl
left_heard s (OpenFile rid size) = refl
left_heard s (ExtendFile rid size) = refl
left_heard s (Fill rid start end bytes) = refl
left_heard s (OpenPipe rid) = refl
left_heard s (PipeTransfer rid bytes) = refl
left_heard s (PipeShutR rid) = refl
left_heard s (PipeShutW rid) = refl
left_heard s (Ack count) = refl
left_heard s (Restart token connection received) = refl
left_heard s (Close reason) = refl

left_lone : (s : LogState) (frame : Frame) → as_left (after_lone s frame) ≡ as_left s
left_lone s (Close reason) = refl
left_lone s (PipeShutW rid) = refl
left_lone s (PipeShutR rid) = refl
left_lone s _ = refl

left_group : (s : LogState) (owes : Option Owed) (frames : List Frame) → as_left (after_group s owes frames) ≡ as_left s
left_group s (Some owed) frames = refl
left_group s None [] = refl
left_group s None (frame ∷ []) = left_lone s frame
left_group s None (frame ∷ next ∷ frames) = refl

-- a message changes what the side itself opened, alone
pipes_of : PipesState → FrameState → FrameState
pipes_of pipes f = record f { opened = pipes.other; ended = pipes.ended; shut = pipes.shut }

left_pipe : (passing : Option Passing) (pipes : PipesState) (f : FrameState) → pipes_of (with_pipe passing pipes) f ≡ pipes_of pipes f
unfolding pipes_of
left_pipe None pipes f = refl
left_pipe (Some it) pipes f = by (is_new_pipe it)
  where
    by : (b : _) → (record f { opened = (cond b (with_own it.rid pipes) pipes).other; ended = (cond b (with_own it.rid pipes) pipes).ended; shut = (cond b (with_own it.rid pipes) pipes).shut }) ≡ record f { opened = pipes.other; ended = pipes.ended; shut = pipes.shut }
    by true = refl
    by false = refl

kept_passed : (handle : Option Handle) (tables : Tables) → (passed_with handle tables.handles).kept ≡ tables.handles.kept
kept_passed None tables = refl
kept_passed (Some handle) tables = refl

left_taken : (s : LogState) (message : List ℕ) (handle : Option Handle) (segments : List ℕ) → MayTake s message handle segments
    → as_left (log_next s (Taken message handle segments)) ≡ as_left s
unfolding pipes_of
left_taken s message handle segments may =
    let p = passed s message handle segments may in
    ap as_left (after_taken s message handle segments p)
    ∙ ap (λ (it : Plan). as_left (record s { tables = it.tables })) (sym p.is_planned.is)
    ∙ ap (λ (kept : List (ℤ × HandleKind)). let f : FrameState = record { kept = kept; sizes = s.taking.sizes; opened = (with_pipe p.is_planned.passing s.tables.pipes).other; ended = (with_pipe p.is_planned.passing s.tables.pipes).ended; shut = (with_pipe p.is_planned.passing s.tables.pipes).shut } in f) (kept_passed handle s.tables)
    ∙ left_pipe p.is_planned.passing s.tables.pipes (as_left s)

-- ---- along a story

left_counted : (frame : Frame) (frames : List Frame) (f : FrameState) → frames_left (counted (frame ∷ frames)) f ≡ frames_left (counted frames) (frame_left frame f)
left_counted (Ack count) frames f = refl
left_counted (Restart token connection received) frames f = refl
left_counted (Protocol bytes) frames f = refl
left_counted (Inject rids) frames f = refl
left_counted (OpenFile rid size) frames f = refl
left_counted (ExtendFile rid size) frames f = refl
left_counted (Fill rid start end bytes) frames f = refl
left_counted (OpenPipe rid) frames f = refl
left_counted (PipeTransfer rid bytes) frames f = refl
left_counted (PipeShutR rid) frames f = refl
left_counted (PipeShutW rid) frames f = refl
left_counted (Close reason) frames f = refl

pub left_after : (s : LogState) (story : List Mark) → Logs s story → as_left (log_after s story) ≡ frames_left (accepted_in story) (as_left s)
left_after s [] logs = refl
left_after s (Taken message handle segments ∷ story) logs =
    left_after (log_next s (Taken message handle segments)) story logs.1 ∙ ap (frames_left (accepted_in story)) (left_taken s message handle segments logs.0)
left_after s (Heard frame ∷ story) logs =
    left_after (log_next s (Heard frame)) story logs.1 ∙ ap (frames_left (accepted_in story)) (left_heard s frame) ∙ sym (left_counted frame (heard_in story) (as_left s))
left_after s (Dropped rid ∷ story) logs = left_after (log_next s (Dropped rid)) story logs.1
left_after s (Grouped frames copies ∷ story) logs =
    left_after (log_next s (Grouped frames copies)) story logs.1 ∙ ap (frames_left (accepted_in story)) (left_group s s.owes frames)
