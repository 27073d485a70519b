-- The story of one side: the messages that it took, the frames that it heard and the groups of
-- frames that it made, and which stories follow the rules. Messages and objects are Wayland's;
-- groups and frames are this project's own.
use Rattle.std.specs.Prelude.{◌≡◌, ℕ, Bool, true, false, List, [], ◌∷◌, ℤ, Option, Some, None}
use Rattle.std.specs.Prelude.{Result, Ok, Err}
use Rattle.wp_outside.specs.declared.kinds.Side.{Side}
use Rattle.wl_wire.specs.Wire.{IsMessage}
use Rattle.handle_table.specs.declared.handles.Handle.{Handle}
use Rattle.transfer_frames.specs.declared.frame.Frame.{Frame}
use Rattle.transfer_frames.specs.declared.frame.Frame.TheVariants as frames
use Rattle.transfer_frames.specs.Grammar.{IsFrame}
use Rattle.half_model.specs.declared.notes.CopyRecord.{CopyRecord}
use Rattle.half_model.specs.Content.{Taking, no_taking, Hearing, content_fault, heard}
use Rattle.half_model.specs.Group.{Owed, owed_by, IsGroup, refusal_of}
use Rattle.pipe_relay.specs.Pipes.{PipesState, with_rid}
use Rattle.half_model.specs.PipeTurn.{may_make, after_made, may_drop, with_pipes}
use Rattle.half_model.specs.Planning.{Plan, Refusal, plan}
use Rattle.half_model.specs.Shm.{ShmState, no_shm}
use Rattle.half_model.specs.Tables.{Tables, first_tables}

-- what happens at a side
pub data Mark : Type 0 where
  -- a message is taken, with its handle and the words of each eye of the file that it fills
  Taken : List ℕ → Option Handle → List ℕ → Mark
  -- a frame of the other side is heard
  Heard : Frame → Mark
  -- frames are made: those of the last message with its copies, or one of a pipe, or CLOSE
  Grouped : List Frame → List CopyRecord → Mark
  -- the peer closes the write end of a pipe that the other side has shut, of which no frame is made
  Dropped : ℤ → Mark

-- what a side has come to
pub record LogState : Type 0 where
  pub tables : Tables
  pub shm : ShmState
  pub taking : Taking
  -- what it owes for the last message, while its group is not made
  pub owes : Option Owed
  -- whether it made CLOSE
  pub closed : Bool

abbrev pub log_new : Side → LogState
log_new side = record {
  tables = first_tables side;
  shm = no_shm;
  taking = no_taking;
  owes = None;
  closed = false;
}

-- ---- what may happen

-- a whole message that is not refused, while none is owed and CLOSE is not made
pub record MayTake (s : LogState) (message : List ℕ) (handle : Option Handle)
    (segments : List ℕ) : Type 0 where
  pub whole : IsMessage message
  pub owes_none : s.owes ≡ None
  pub goes_on : s.closed ≡ false
  pub passes : refusal_of s.tables s.shm message handle segments ≡ None

-- a frame of the grammar that is not refused for what it says
pub record MayHear (s : LogState) (frame : Frame) : Type 0 where
  pub is_frame : IsFrame frame
  pub accepted : content_fault s.tables s.taking frame ≡ None

-- a frame that is no message's: one of a pipe, or CLOSE
abbrev pub is_lone : Tables → Taking → Frame → Bool
is_lone tables taking (frames.Close reason) = true
is_lone tables taking frame = may_make tables.pipes taking.held frame

pub record IsLone (s : LogState) (frame : Frame) : Type 0 where
  pub goes_on : s.closed ≡ false
  pub is_frame : IsFrame frame
  pub may : is_lone s.tables s.taking frame ≡ true

-- one such frame, without copies
abbrev pub MakesLone : LogState → List Frame → List CopyRecord → Type 0
MakesLone s (frame ∷ []) copies = (copies ≡ []) × IsLone s frame
MakesLone s frames copies = ⊥

-- the group of the message that is owed, or a lone frame
abbrev pub MayMake : LogState → Option Owed → List Frame → List CopyRecord → Type 0
MayMake s (Some owed) frames copies = IsGroup owed copies frames
MayMake s None frames copies = MakesLone s frames copies

abbrev pub Lawful : LogState → Mark → Type 0
Lawful s (Taken message handle segments) = MayTake s message handle segments
Lawful s (Heard frame) = MayHear s frame
Lawful s (Grouped frames copies) = MayMake s s.owes frames copies
Lawful s (Dropped rid) = may_drop s.tables.pipes s.taking.held rid ≡ true

-- ---- what it leaves

abbrev pub after_plan : LogState → List ℕ → Result Plan Refusal → LogState
after_plan s segments (Ok it) =
    record s { tables = it.tables; shm = it.shm; owes = Some (owed_by it segments) }
after_plan s segments (Err refusal) = s

abbrev pub after_hearing : LogState → Hearing → LogState
after_hearing s it = record s { tables = it.tables; taking = it.taking }

abbrev pub on_pipes : (PipesState → PipesState) → LogState → LogState
on_pipes step s = record s { tables = with_pipes (step s.tables.pipes) s.tables }

abbrev pub after_lone : LogState → Frame → LogState
after_lone s (frames.Close reason) = record s { closed = true }
after_lone s frame = on_pipes (λ pipes. after_made pipes frame) s

abbrev pub after_group : LogState → Option Owed → List Frame → LogState
after_group s (Some owed) frames = record s { owes = None }
after_group s None (frame ∷ []) = after_lone s frame
after_group s None frames = s

abbrev pub log_next : LogState → Mark → LogState
log_next s (Taken message handle segments) =
    after_plan s segments (plan s.tables s.shm message handle)
log_next s (Heard frame) = after_hearing s (heard s.tables s.taking frame)
log_next s (Grouped frames copies) = after_group s s.owes frames
log_next s (Dropped rid) = on_pipes (λ pipes. record pipes { closed = with_rid rid pipes.closed }) s

-- a story that follows the rules from a state on
abbrev pub Logs : LogState → List Mark → Type 0
Logs s [] = Unit {0}
Logs s (mark ∷ marks) = Lawful s mark × Logs (log_next s mark) marks

-- what a story leaves
abbrev pub log_after : LogState → List Mark → LogState
log_after s [] = s
log_after s (mark ∷ marks) = log_after (log_next s mark) marks
