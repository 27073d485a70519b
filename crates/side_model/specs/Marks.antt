-- Which mark an event adds to the story of a side, and what is noted of a mark; this project's own.
use Rattle.std.specs.Prelude.{List, [], ◌∷◌, ◌++◌, length, Option, Some, None}
use Rattle.wl_wire.specs.Wire.{cut}
use Rattle.transfer_frames.specs.declared.frame.Frame.{Frame}
use Rattle.transfer_frames.specs.declared.frame.Frame.TheVariants as frames
use Rattle.half_model.specs.declared.items.PeerIn.{PeerIn}
use Rattle.half_model.specs.declared.items.PeerIn.TheVariants as inputs
use Rattle.half_model.specs.declared.notes.Noted.{Noted}
use Rattle.half_model.specs.declared.notes.Noted.TheVariants as notes
use Rattle.wp_outside.specs.declared.pipe_items.PipeItem.{PipeItem}
use Rattle.wp_outside.specs.declared.pipe_items.PipeItem.TheVariants as items
use Rattle.half_model.specs.Log as marks
use Rattle.half_model.specs.Log.{Mark}
use Rattle.half_model.specs.PipeTurn as pipes
use Rattle.half_model.specs.PipeTurn.{PipeTurn, pipe_turn}
use Rattle.half_model.specs.Turn as turns
use Rattle.half_model.specs.Turn.{Turn, turn, MadeGroup, group_due}
use Rattle.side_model.specs.Events.{Event, Fed, Heard, Took, Grouped, Ended}
use Rattle.side_model.specs.State.{Now, Closing, Asked}

-- one frame alone is made
abbrev pub mark_alone : Frame → Option Mark
mark_alone frame = Some (marks.Grouped (frame ∷ []) [])

-- of an item for a shut pipe the story tells only that the write end was closed
abbrev pub mark_dropped : PipeItem → Option Mark
mark_dropped (items.End rid) = Some (marks.Dropped rid)
mark_dropped item = None

abbrev pub mark_pipe : PipeItem → PipeTurn → Option Mark
mark_pipe item pipes.Barred = None
mark_pipe item (pipes.Drops tables) = mark_dropped item
mark_pipe item (pipes.Makes frame tables) = mark_alone frame

abbrev pub mark_fed : PeerIn → Now → Option Mark
mark_fed (inputs.Pipe item) s = mark_pipe item (pipe_turn s.live.tables s.live.taking item)
mark_fed item s = None

abbrev pub mark_taken : Turn → Option Mark
mark_taken (turns.Takes it) = Some (marks.Taken it.message it.handle it.segments)
mark_taken other = None

abbrev pub mark_grouped : Option MadeGroup → Option Mark
mark_grouped None = None
mark_grouped (Some it) = Some (marks.Grouped it.frames it.copies)

abbrev pub mark_ended : Closing → Option Mark
mark_ended (Asked reason) = mark_alone (frames.Close reason)
mark_ended closing = None

-- the mark of an event at a state; most events leave none
abbrev pub mark_of : Event → Now → Option Mark
mark_of (Fed item) s = mark_fed item s
mark_of (Heard frame) s = Some (marks.Heard frame)
mark_of Took s = mark_taken (turn s.live.tables s.live.sending)
mark_of Grouped s = mark_grouped (group_due s.live.sending.owes s.kept.jobs)
mark_of Ended s = mark_ended s.kept.closing
mark_of event s = None

-- a story with one more mark, if there is one
abbrev pub marked : Option Mark → List Mark → List Mark
marked None story = story
marked (Some mark) story = story ++ mark ∷ []

-- ---- what is noted

abbrev pub notes_of_frame : Frame → List Noted
notes_of_frame (frames.Protocol bytes) = notes.Received (length (cut bytes)) ∷ []
notes_of_frame frame = []

-- what is noted of a mark
abbrev pub notes_of : Option Mark → List Noted
notes_of None = []
notes_of (Some (marks.Taken message handle segments)) = notes.Taken message ∷ []
notes_of (Some (marks.Heard frame)) = notes_of_frame frame
notes_of (Some (marks.Grouped frames copies)) = notes.Group frames copies ∷ []
notes_of (Some (marks.Dropped rid)) = []
