-- The pipes whose write ends were passed as Wayland's `fd` arguments, as one side knows them: who
-- passed the end, and which ends are closed. That the bytes of a pipe go over the link in frames is
-- this project's own.
use Rattle.std.specs.Prelude.{Bool, true, false, ◌||◌, not, if◌then◌else◌, ℤ, List, [], ◌∷◌, Option}
use Rattle.std.specs.Prelude.{Some, None}
use Rattle.std.specs.Ordering.{int_cmp}
use Rattle.std.specs.BTreeMap.{is_at}
use Rattle.std.specs.BTreeSet.{insert_key}
use Rattle.std.specs.List.{list_any}
use Rattle.wp_outside.specs.declared.pipe_items.PipeItem.{PipeItem}
use Rattle.wp_outside.specs.declared.pipe_items.PipeItem.TheVariants as items
use Rattle.transfer_frames.specs.declared.cause.FrameCause.{FrameCause}
use Rattle.transfer_frames.specs.declared.cause.FrameCause.TheVariants as causes
use Rattle.transfer_frames.specs.declared.frame.Frame.{Frame}
use Rattle.transfer_frames.specs.declared.frame.Frame.TheVariants as frames
use Rattle.transfer_frames.specs.Faults.{first_of}

-- rids in their order
abbrev pub Rids : Type 0
Rids = List ℤ

abbrev pub has_rid : ℤ → Rids → Bool
has_rid rid rids = list_any (is_at (int_cmp rid)) rids

abbrev pub with_rid : ℤ → Rids → Rids
with_rid rid rids = insert_key int_cmp rids rid

-- the pipes by their rids
pub record PipesState : Type 0 where
  -- passed by this side's peer, which reads them
  pub own : Rids
  -- of those: the writer's end is known to be closed; this side's peer closed the reading end
  pub ended : Rids
  pub left : Rids
  -- passed by the other side's peer; this side's peer writes to them
  pub other : Rids
  -- of those: this side's peer closed the write end; the reader's end is known to be closed
  pub closed : Rids
  pub shut : Rids

abbrev pub no_pipes : PipesState
no_pipes = record { own = []; ended = []; left = []; other = []; closed = []; shut = [] }

abbrev pub with_own : ℤ → PipesState → PipesState
with_own rid pipes = record pipes { own = with_rid rid pipes.own }

abbrev pub with_other : ℤ → PipesState → PipesState
with_other rid pipes = record pipes { other = with_rid rid pipes.other }

-- ---- what this side's peer does

-- whether a peer doesn't hold an end: it was given no such end, or has closed it
abbrev pub is_no_end : Rids → Rids → ℤ → Bool
is_no_end given closed rid = not (has_rid rid given) || has_rid rid closed

-- whether an item is refused: it names no pipe whose end the peer holds
abbrev pub is_unknown : PipesState → PipeItem → Bool
is_unknown pipes (items.Bytes rid bytes) = is_no_end pipes.other pipes.closed rid
is_unknown pipes (items.End rid) = is_no_end pipes.other pipes.closed rid
is_unknown pipes (items.Shut rid) = is_no_end pipes.own pipes.left rid

-- the frame of an item; none where the reader has closed its end
abbrev pub frame_of_item : PipesState → PipeItem → Option Frame
frame_of_item pipes (items.Bytes rid bytes) =
    if has_rid rid pipes.shut then None else Some (frames.PipeTransfer rid bytes)
frame_of_item pipes (items.End rid) =
    if has_rid rid pipes.shut then None else Some (frames.PipeShutW rid)
frame_of_item pipes (items.Shut rid) = Some (frames.PipeShutR rid)

abbrev pub after_item : PipesState → PipeItem → PipesState
after_item pipes (items.Bytes rid bytes) = pipes
after_item pipes (items.End rid) = record pipes { closed = with_rid rid pipes.closed }
after_item pipes (items.Shut rid) = record pipes { left = with_rid rid pipes.left }

-- ---- what the other side's frames say

-- the frames that speak of a pipe which is open
abbrev pub is_of_pipe : Frame → Bool
is_of_pipe (frames.PipeTransfer rid bytes) = true
is_of_pipe (frames.PipeShutW rid) = true
is_of_pipe (frames.PipeShutR rid) = true
is_of_pipe frame = false

-- the cause to refuse a frame from an end of the other side, by the pipes of which it has that end
-- and those of which it has closed it
abbrev pub end_cause : Rids → Rids → ℤ → Option FrameCause
end_cause given closed rid = first_of (
    (not (has_rid rid given), causes.PipeUnknown) ∷
    (has_rid rid closed, causes.PipeShut) ∷ [])

-- from a writer, and from a reader
abbrev pub writer_cause : PipesState → ℤ → Option FrameCause
writer_cause pipes rid = end_cause pipes.own pipes.ended rid

abbrev pub reader_cause : PipesState → ℤ → Option FrameCause
reader_cause pipes rid = end_cause pipes.other pipes.shut rid

abbrev pub pipe_cause : PipesState → Frame → Option FrameCause
pipe_cause pipes (frames.PipeTransfer rid bytes) = writer_cause pipes rid
pipe_cause pipes (frames.PipeShutW rid) = writer_cause pipes rid
pipe_cause pipes (frames.PipeShutR rid) = reader_cause pipes rid
pipe_cause pipes frame = None

abbrev pub after_pipe_frame : PipesState → Frame → PipesState
after_pipe_frame pipes (frames.PipeShutW rid) = record pipes { ended = with_rid rid pipes.ended }
after_pipe_frame pipes (frames.PipeShutR rid) = record pipes { shut = with_rid rid pipes.shut }
after_pipe_frame pipes frame = pipes

-- what the peer is given of a frame; nothing of a pipe whose reading end it has closed
abbrev pub item_of_frame : PipesState → Frame → Option PipeItem
item_of_frame pipes (frames.PipeTransfer rid bytes) =
    if has_rid rid pipes.left then None else Some (items.Bytes rid bytes)
item_of_frame pipes (frames.PipeShutW rid) =
    if has_rid rid pipes.left then None else Some (items.End rid)
item_of_frame pipes (frames.PipeShutR rid) = Some (items.Shut rid)
item_of_frame pipes frame = None
