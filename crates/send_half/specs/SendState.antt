-- What the sending half of one side is between two calls: what waits, the copies that are not back,
-- and what it made that was not taken yet; halves, frames and copies are this project's own.
use Rattle.std.specs.Prelude.{ℕ, ◌+◌, List, [], ◌∷◌, ◌++◌, length, drop}
use Rattle.std.specs.Prelude.{Option, Some, None}
use Rattle.wp_outside.specs.declared.kinds.Side.{Side}
use Rattle.wl_objects.specs.Registry.{ObjectsState}
use Rattle.handle_table.specs.Table.{Table}
use Rattle.pipe_relay.specs.Pipes.{PipesState}
use Rattle.transfer_frames.specs.declared.frame.Frame.{Frame}
use Rattle.half_model.specs.declared.causes.HalfFault.{HalfFault}
use Rattle.half_model.specs.declared.items.FileReceipt.{FileReceipt}
use Rattle.half_model.specs.declared.items.PeerIn.{PeerIn}
use Rattle.half_model.specs.declared.notes.Noted.{Noted}
use Rattle.half_model.specs.declared.notes.Noted.TheVariants.{Taken, Group}
use Rattle.half_model.specs.Group.{Owed}
use Rattle.half_model.specs.Inlet.{with_item}
use Rattle.half_model.specs.Jobs.{Job, Done, lent, handed}
use Rattle.half_model.specs.Tables.{Tables}
use Rattle.half_model.specs.Turn.{Sending, no_sending, settled, Treated, Turn, Idle, turn}
use Rattle.half_model.specs.Turn.{MadeGroup, group_due}

pub record SendState : Type 0 where
  pub side : Side
  pub sending : Sending
  -- the copies of the last message, while its group is owed
  pub jobs : List Job
  -- what was made, and not taken yet
  pub frames : List Frame
  pub receipts : List FileReceipt
  pub noted : List Noted
  -- for what it has failed
  pub fault : Option HalfFault

abbrev pub nothing_sent : Side → SendState
nothing_sent side = record {
  side = side;
  sending = no_sending;
  jobs = [];
  frames = [];
  receipts = [];
  noted = [];
  fault = None;
}

-- the tables of a side, which both its halves share
abbrev pub tables_of : ObjectsState → Table → PipesState → Tables
tables_of objects handles pipes =
    record { objects = objects; handles = handles; pipes = pipes }

-- the half with one more item that its peer put on its wire
abbrev pub with_fed : PeerIn → SendState → SendState
with_fed item s =
    record s { sending = record s.sending { inlet = with_item item s.sending.inlet } }

-- ---- the group of the last message

abbrev pub with_made : MadeGroup → SendState → SendState
with_made made s = record s {
  sending = settled s.sending;
  jobs = [];
  frames = s.frames ++ made.frames;
  receipts = s.receipts ++ made.receipts;
  noted = s.noted ++ Group made.frames made.copies ∷ [];
}

abbrev pub with_group : Option MadeGroup → SendState → SendState
with_group None s = s
with_group (Some made) s = with_made made s

-- the group is made once no copy is waited for
abbrev pub grouped : SendState → SendState
grouped s = with_group (group_due s.sending.owes s.jobs) s

-- ---- a message

-- what the half does next: nothing while a frame that it made was not taken
abbrev pub turn_while : List Frame → Turn → Turn
turn_while [] next = next
turn_while (frame ∷ frames) next = Idle

abbrev pub next_turn : Tables → SendState → Turn
next_turn tables s = turn_while s.frames (turn tables s.sending)

-- the half behind a message that it took
abbrev pub noted_taken : Treated → SendState → SendState
noted_taken t s = record s {
  sending = t.sending;
  jobs = t.jobs;
  noted = s.noted ++ Taken t.message ∷ [];
}

abbrev pub taken_by : Treated → SendState → SendState
taken_by t s = grouped (noted_taken t s)

-- the half behind a message with what is owed for it and the copies that it waits for
abbrev pub message_taken : List ℕ → Owed → List Job → SendState → SendState
message_taken message owed jobs s =
    grouped (record s {
      sending = record s.sending {
        taken = s.sending.taken + 1;
        next_job = s.sending.next_job + length jobs;
        owes = Some owed;
      };
      jobs = jobs;
      noted = s.noted ++ Taken message ∷ [];
    })

-- ---- copies

-- the first copy that waits is given out
abbrev pub lent_one : SendState → SendState
lent_one s = record s { jobs = lent s.jobs }

-- a copy is handed back
abbrev pub with_done : Done → SendState → SendState
with_done done s = record s { jobs = handed done s.jobs }

abbrev pub after_done : Done → SendState → SendState
after_done done s = grouped (with_done done s)

-- ---- what is taken of the half

abbrev pub frame_taken : SendState → SendState
frame_taken s = record s { frames = drop 1 s.frames }

abbrev pub receipt_taken : SendState → SendState
receipt_taken s = record s { receipts = drop 1 s.receipts }

abbrev pub note_taken : SendState → SendState
note_taken s = record s { noted = drop 1 s.noted }
