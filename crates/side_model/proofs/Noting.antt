-- What is noted are the notes of the marks.
use Rattle.std.proofs.Common.{◌≡◌, List, [], ◌++◌, Option, Some, None, refl, sym}
use Rattle.std.proofs.lemmas.List.{append-nil}
use Rattle.transfer_frames.specs.declared.frame.Frame.{Frame}
use Rattle.transfer_frames.specs.declared.frame.Frame.TheVariants.{Protocol, Inject, OpenFile, ExtendFile, Fill, OpenPipe, PipeTransfer, PipeShutR, PipeShutW, Ack, Restart, Close}
use Rattle.half_model.specs.declared.items.PeerIn.TheVariants as inputs
use Rattle.half_model.specs.declared.notes.Noted.{Noted}
use Rattle.wp_outside.specs.declared.pipe_items.PipeItem.{PipeItem}
use Rattle.wp_outside.specs.declared.pipe_items.PipeItem.TheVariants as pieces
use Rattle.half_model.specs.PipeTurn as pipes
use Rattle.half_model.specs.PipeTurn.{PipeTurn, pipe_turn}
use Rattle.half_model.specs.Turn as turns
use Rattle.half_model.specs.Turn.{Turn, turn, MadeGroup, group_due}
use Rattle.side_model.specs.Events.{Fed, Handed, Lent, Up, Down, Came, Went, Gave, Asks, Told, Heard, Took, Grouped, Ended, Chose}
use Rattle.side_model.specs.FollowLaws.{NotesGrow}
use Rattle.side_model.specs.Marks.{mark_pipe, mark_dropped, mark_taken, mark_grouped, mark_ended, notes_of, notes_of_frame}
use Rattle.side_model.specs.State.{Now, Closing, Open, Asked, Made}
use Rattle.side_model.specs.Steps.{step, fed_pipe, took, grouped, ended, notes_heard}

none : (notes : List Noted) → notes ≡ notes ++ []
none notes = sym (append-nil notes)

drop_notes : (item : PipeItem) (notes : List Noted) → notes ≡ notes ++ notes_of (mark_dropped item)
drop_notes (pieces.Bytes rid bytes) notes = none notes
drop_notes (pieces.End rid) notes = none notes
drop_notes (pieces.Shut number) notes = none notes

pipe_notes : (item : PipeItem) (s : Now) (it : PipeTurn) → (fed_pipe it s).kept.notes ≡ s.kept.notes ++ notes_of (mark_pipe item it)
pipe_notes item s pipes.Barred = none s.kept.notes
pipe_notes item s (pipes.Drops tables) = drop_notes item s.kept.notes
pipe_notes item s (pipes.Makes frame tables) = refl

frame_notes : (frame : Frame) (notes : List Noted) → notes_heard frame notes ≡ notes ++ notes_of_frame frame
frame_notes (Protocol bytes) notes = refl
frame_notes (Inject rids) notes = none notes
frame_notes (OpenFile rid size) notes = none notes
frame_notes (ExtendFile rid size) notes = none notes
frame_notes (Fill rid start end bytes) notes = none notes
frame_notes (OpenPipe rid) notes = none notes
frame_notes (PipeTransfer rid bytes) notes = none notes
frame_notes (PipeShutR rid) notes = none notes
frame_notes (PipeShutW rid) notes = none notes
frame_notes (Ack count) notes = none notes
frame_notes (Restart token connection received) notes = none notes
frame_notes (Close reason) notes = none notes

turn_notes : (s : Now) (it : Turn) → (took it s).kept.notes ≡ s.kept.notes ++ notes_of (mark_taken it)
turn_notes s turns.Idle = none s.kept.notes
turn_notes s (turns.Refuses fault) = none s.kept.notes
turn_notes s (turns.Takes it) = refl

group_notes : (s : Now) (found : Option MadeGroup) → (grouped found s).kept.notes ≡ s.kept.notes ++ notes_of (mark_grouped found)
group_notes s None = none s.kept.notes
group_notes s (Some made) = refl

close_notes : (s : Now) (closing : Closing) → (ended closing s).kept.notes ≡ s.kept.notes ++ notes_of (mark_ended closing)
close_notes s Open = none s.kept.notes
close_notes s (Asked reason) = refl
close_notes s Made = none s.kept.notes

pub notes_grow : NotesGrow
unfolding step
notes_grow (Fed (inputs.Bytes bytes)) s n = none s.kept.notes
notes_grow (Fed (inputs.Handle handle)) s n = none s.kept.notes
notes_grow (Fed (inputs.Note note)) s n = none s.kept.notes
notes_grow (Fed (inputs.Pipe item)) s n = pipe_notes item s (pipe_turn s.live.tables s.live.taking item)
notes_grow (Handed done) s n = none s.kept.notes
notes_grow Lent s n = none s.kept.notes
notes_grow (Up connection) s n = none s.kept.notes
notes_grow Down s n = none s.kept.notes
notes_grow (Came piece) s n = none s.kept.notes
notes_grow (Went count) s n = none s.kept.notes
notes_grow Gave s n = none s.kept.notes
notes_grow (Asks reason) s n = none s.kept.notes
notes_grow Told s n = absurd (n refl)
notes_grow (Heard frame) s n = frame_notes frame s.kept.notes
notes_grow Took s n = turn_notes s (turn s.live.tables s.live.sending)
notes_grow Grouped s n = group_notes s (group_due s.live.sending.owes s.kept.jobs)
notes_grow Ended s n = close_notes s s.kept.closing
notes_grow Chose s n = none s.kept.notes
