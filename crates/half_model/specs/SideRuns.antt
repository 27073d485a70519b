-- Plain runs of one side and of two: a peer's items are treated one by one, each copy is loaded at
-- once, and each side hears all that the other made. For worked rows; the messages are those of
-- wayland.xml, all else is this project's own.
use Rattle.std.specs.Prelude.{ℕ, ◌+◌, List, [], ◌∷◌, ◌++◌, drop, map, Option, Some, None}
use Rattle.wp_outside.specs.declared.kinds.Side.{Side}
use Rattle.wp_outside.specs.declared.kinds.Side.TheVariants.{Near, Far}
use Rattle.transfer_frames.specs.declared.cause.FrameCause.{FrameCause}
use Rattle.transfer_frames.specs.declared.frame.Frame.{Frame}
use Rattle.transfer_frames.specs.declared.frame.Frame.TheVariants.{Fill}
use Rattle.transfer_frames.specs.Faults.{or_else}
use Rattle.half_model.specs.declared.causes.HalfFault.{HalfFault}
use Rattle.half_model.specs.declared.causes.HalfFault.TheVariants as faults
use Rattle.half_model.specs.declared.causes.PeerCause.TheVariants.{PipeUnknown}
use Rattle.half_model.specs.declared.items.PeerIn.{PeerIn}
use Rattle.half_model.specs.declared.items.PeerIn.TheVariants as items
use Rattle.half_model.specs.declared.items.PeerOut.{PeerOut}
use Rattle.half_model.specs.Content.{Taking, no_taking, Hearing, content_fault, heard}
use Rattle.half_model.specs.Inlet.{with_item}
use Rattle.half_model.specs.PipeTurn.{PipeTurn, Barred, Drops, Makes, pipe_turn}
use Rattle.half_model.specs.Rows.{Shared, loaded}
use Rattle.half_model.specs.Tables.{Tables, first_tables}
use Rattle.half_model.specs.Turn.{Sending, no_sending, Turn, Idle, Refuses, Takes, turn, MadeGroup}
use Rattle.half_model.specs.Turn.{group_due, settled}

-- one side: its tables and halves, the frames that it made, how many it heard, what its peer was
-- given, and what it refused
pub record SideRun : Type 0 where
  pub tables : Tables
  pub sending : Sending
  pub taking : Taking
  pub made : List Frame
  pub heard : ℕ
  pub given : List PeerOut
  pub fault : Option HalfFault
  pub refused : Option FrameCause

abbrev pub first_run : Side → SideRun
first_run side = record {
  tables = first_tables side;
  sending = no_sending;
  taking = no_taking;
  made = [];
  heard = 0;
  given = [];
  fault = None;
  refused = None;
}

-- ---- what its peer puts on its wire

abbrev pub frames_due : Option MadeGroup → List Frame
frames_due None = []
frames_due (Some group) = group.frames

abbrev pub after_turn : Turn → Shared → SideRun → SideRun
after_turn Idle words run = run
after_turn (Refuses fault) words run = record run { fault = Some fault }
after_turn (Takes it) words run = record run {
  tables = it.tables;
  sending = settled it.sending;
  made = run.made ++ frames_due (group_due it.sending.owes (map (loaded words) it.jobs));
}

abbrev pub after_pipe_turn : PipeTurn → SideRun → SideRun
after_pipe_turn Barred run = record run { fault = Some (faults.Peer run.sending.taken PipeUnknown) }
after_pipe_turn (Drops tables) run = record run { tables = tables }
after_pipe_turn (Makes frame tables) run =
    record run { tables = tables; made = run.made ++ frame ∷ [] }

abbrev pub turned : Shared → Sending → SideRun → SideRun
turned words sending run =
    after_turn (turn run.tables sending) words (record run { sending = sending })

-- one item, and the turn that it brings about; each piece of bytes is one message
abbrev pub takes_item : Shared → PeerIn → SideRun → SideRun
takes_item words (items.Pipe item) run = after_pipe_turn (pipe_turn run.tables run.taking item) run
takes_item words item run =
    turned words (record run.sending { inlet = with_item item run.sending.inlet }) run

abbrev pub takes_items : Shared → List PeerIn → SideRun → SideRun
takes_items words [] run = run
takes_items words (item ∷ rest) run = takes_items words rest (takes_item words item run)

-- ---- what the other side made

abbrev pub hears_as : Hearing → Option FrameCause → SideRun → SideRun
hears_as it cause run = record run {
  tables = it.tables;
  taking = it.taking;
  heard = run.heard + 1;
  given = run.given ++ it.given;
  refused = or_else run.refused cause;
}

abbrev pub hears_frames : List Frame → SideRun → SideRun
hears_frames [] run = run
hears_frames (frame ∷ frames) run =
    hears_frames frames
    (hears_as (heard run.tables run.taking frame) (content_fault run.tables run.taking frame) run)

abbrev pub hears : SideRun → SideRun → SideRun
hears run other = hears_frames (drop run.heard other.made) run

-- ---- both sides

pub record PairRun : Type 0 where
  pub near : SideRun
  pub far : SideRun

abbrev pub first_pair : PairRun
first_pair = record { near = first_run Near; far = first_run Far }

-- the peer of one side puts items on its wire, and the other side hears what comes of them
abbrev pub after_near : SideRun → PairRun → PairRun
after_near near pair = record { near = near; far = hears pair.far near }

abbrev pub after_far : SideRun → PairRun → PairRun
after_far far pair = record { near = hears pair.near far; far = far }

abbrev pub from_side : Side → Shared → List PeerIn → PairRun → PairRun
from_side Near words given pair = after_near (takes_items words given pair.near) pair
from_side Far words given pair = after_far (takes_items words given pair.far) pair

-- ---- what is looked at

-- where the FILL frames begin and end
abbrev pub filled_ranges : List Frame → List (ℕ × ℕ)
filled_ranges [] = []
filled_ranges (Fill rid start end bytes ∷ frames) = (start, end) ∷ filled_ranges frames
filled_ranges (frame ∷ frames) = filled_ranges frames
