-- What an item comes to that a peer puts on its wire for a pipe: it is refused, dropped, or makes a
-- frame; this project's own.
use Rattle.std.specs.Prelude.{Bool, false, ◌&&◌, not, if◌then◌else◌, ℤ, Option, Some, None}
use Rattle.std.specs.Prelude.{option_map}
use Rattle.handle_table.specs.Table.{Table, rid_of_number}
use Rattle.transfer_frames.specs.declared.frame.Frame.{Frame}
use Rattle.transfer_frames.specs.declared.frame.Frame.TheVariants.{PipeTransfer, PipeShutR}
use Rattle.transfer_frames.specs.declared.frame.Frame.TheVariants.{PipeShutW}
use Rattle.wp_outside.specs.declared.pipe_items.PipeItem.{PipeItem}
use Rattle.wp_outside.specs.declared.pipe_items.PipeItem.TheVariants as items
use Rattle.half_model.specs.Content.{Taking}
use Rattle.pipe_relay.specs.Pipes.{PipesState, Rids, has_rid, with_rid, is_unknown, frame_of_item}
use Rattle.pipe_relay.specs.Pipes.{after_item}
use Rattle.half_model.specs.Tables.{Tables}

-- the item is refused, changes the tables alone, or makes a frame
pub data PipeTurn : Type 0 where
  Barred : PipeTurn
  Drops : Tables → PipeTurn
  Makes : Frame → Tables → PipeTurn

-- the item with the pipe's rid. What a peer writes to names the rid, once it was given that end;
-- what it reads from has its own number
abbrev pub if_held : Rids → ℤ → PipeItem → Option PipeItem
if_held held rid item = if has_rid rid held then Some item else None

abbrev pub item_by_rid : Table → Rids → PipeItem → Option PipeItem
item_by_rid handles held (items.Bytes rid bytes) = if_held held rid (items.Bytes rid bytes)
item_by_rid handles held (items.End rid) = if_held held rid (items.End rid)
item_by_rid handles held (items.Shut number) =
    option_map (λ rid. items.Shut rid) (rid_of_number handles number)

abbrev pub with_pipes : PipesState → Tables → Tables
with_pipes pipes tables = record tables { pipes = pipes }

abbrev pub made_turn : Tables → Option Frame → PipeTurn
made_turn tables None = Drops tables
made_turn tables (Some frame) = Makes frame tables

abbrev pub named_turn : Tables → Option PipeItem → PipeTurn
named_turn tables None = Barred
named_turn tables (Some item) =
    if is_unknown tables.pipes item then Barred
    else made_turn (with_pipes (after_item tables.pipes item) tables)
    (frame_of_item tables.pipes item)

abbrev pub pipe_turn : Tables → Taking → PipeItem → PipeTurn
pipe_turn tables taking item = named_turn tables (item_by_rid tables.handles taking.held item)

-- ---- the same, by the frame that was made

-- the peer may write to a pipe: it was given that end and has not closed it
abbrev pub may_write : PipesState → Rids → ℤ → Bool
may_write pipes held rid =
    has_rid rid held && (has_rid rid pipes.other && not (has_rid rid pipes.closed))

-- a pipe frame that a side may make
abbrev pub may_make : PipesState → Rids → Frame → Bool
may_make pipes held (PipeTransfer rid bytes) =
    may_write pipes held rid && not (has_rid rid pipes.shut)
may_make pipes held (PipeShutW rid) = may_write pipes held rid && not (has_rid rid pipes.shut)
may_make pipes held (PipeShutR rid) = has_rid rid pipes.own && not (has_rid rid pipes.left)
may_make pipes held frame = false

-- the pipes behind a frame that was made
abbrev pub after_made : PipesState → Frame → PipesState
after_made pipes (PipeShutW rid) = record pipes { closed = with_rid rid pipes.closed }
after_made pipes (PipeShutR rid) = record pipes { left = with_rid rid pipes.left }
after_made pipes frame = pipes

-- the end of a shut pipe that the peer closes makes no frame
abbrev pub may_drop : PipesState → Rids → ℤ → Bool
may_drop pipes held rid = may_write pipes held rid && has_rid rid pipes.shut
