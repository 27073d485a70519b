-- What the fault tells with which a run ends: the cause stands at a message or an item that a peer
-- put, or a limit is passed. Messages are Wayland's, all else is this project's own.
use Rattle.std.specs.Prelude.{◌≡◌, ℕ, ◌+◌, ◌<◌, ◌≤◌, List, ◌∷◌, length, Some, Ok, ◌⊎◌}
use Rattle.wp_outside.specs.declared.kinds.Side.{Side}
use Rattle.wp_outside.specs.declared.pipe_items.PipeItem.{PipeItem}
use Rattle.wl_wire.specs.Wire.{cut}
use Rattle.wl_objects.specs.Entries.{Tracked, first_objects}
use Rattle.wl_objects.specs.Tracking.{track}
use Rattle.transfer_frames.specs.declared.frame.Frame.{Frame}
use Rattle.transfer_frames.specs.Grammar.{spelling}
use Rattle.half_model.specs.declared.causes.Limit.{Limit}
use Rattle.half_model.specs.declared.causes.Limit.TheVariants as limits
use Rattle.half_model.specs.declared.causes.PeerCause.{PeerCause}
use Rattle.half_model.specs.declared.causes.PeerCause.TheVariants.{PipeUnknown}
use Rattle.half_model.specs.declared.items.PeerIn.{PeerIn}
use Rattle.half_model.specs.declared.items.PeerIn.TheVariants as inputs
use Rattle.half_model.specs.Inlet.{Inlet}
use Rattle.half_model.specs.Log.{Mark, Lawful}
use Rattle.half_model.specs.PipeTurn.{Makes, pipe_turn}
use Rattle.half_model.specs.Story.{order_in}
use Rattle.half_model.specs.StoryLaws.{now}
use Rattle.half_model.specs.Tables.{Tables}
use Rattle.script_lang.specs.declared.steps.Step.{Step}
use Rattle.side_model.specs.declared.fault.ProxyFault.{ProxyFault}
use Rattle.side_model.specs.declared.fault.ProxyFault.TheVariants as faults
use Rattle.side_model.specs.Books.{Book, weight, mark_cost, MOST_WEIGHT, ITEM_WEIGHT}
use Rattle.side_model.specs.Calls.{MOST_CONNECTIONS}
use Rattle.side_model.specs.Sound.{MOST_PIECE}
use Rattle.pair_runs.specs.Causes.{MessageHas, IsUnknown, TellsAbove}
use Rattle.pair_runs.specs.Putting.{items_put, TakenOf}
use Rattle.pair_runs.specs.Runs.{Played, Fails, Runs, bytes_in}
use Rattle.pair_runs.specs.States.{State, Fault, side_at, connections}
use Rattle.pair_runs.specs.Whys.{Told, tracked_by, ComesNext, RefusesFront}

-- what waits behind all messages that these records say were taken, of what the peer put, where a
-- story has come to
pub record Waiting (side : Side) (put : List PeerIn) (book : Book) (story : List Mark)
    : Type 0 where
  pub waits : Inlet
  pub others : List PeerIn
  pub taken_of : TakenOf side put book waits (tracked_by side story) others

-- the same where an item for a pipe is the next one to come
pub record ItemNext (side : Side) (put : List PeerIn) (book : Book) : Type 0 where
  pub pipe : PipeItem
  pub waits : Inlet
  pub objects : Tracked
  pub others : List PeerIn
  pub taken_of : TakenOf side put book waits objects (inputs.Pipe pipe ∷ others)

-- ---- a fault of the peer

-- the message behind those that were taken has the cause
pub record MessageCaused (side : Side) (put : List PeerIn) (book : Book) (index : ℕ)
    (cause : PeerCause) (told : Told side (faults.Peer index cause) book) : Type 0 where
  pub behind : Waiting side put book told.story
  pub has : MessageHas side told.story behind.waits cause

-- or an item has it that was put behind just so many messages
pub record ItemCaused (side : Side) (put : List PeerIn) (book : Book) (index : ℕ)
    (cause : PeerCause) (told : Told side (faults.Peer index cause) book) : Type 0 where
  pub next : ItemNext side put book
  pub just : cut (bytes_in next.taken_of.ins) ≡ book.trail.taken
  pub cause_is : cause ≡ PipeUnknown
  pub unknown : IsUnknown (now side told.story) next.pipe

-- The cause stands at the index in the order of passing that the records of the side tell: the
-- whole order is tracked, and has as many messages of its peer as the index says.
pub record PeerCaused (side : Side) (put : List PeerIn) (book : Book) (index : ℕ)
    (cause : PeerCause) : Type 0 where
  pub told : Told side (faults.Peer index cause) book
  pub index_is : index ≡ length book.trail.taken
  pub tracked : track first_objects (order_in side told.story)
      ≡ Ok (tracked_by side told.story)
  pub at : MessageCaused side put book index cause told ⊎ ItemCaused side put book index cause told

-- ---- a limit

-- the message behind those that were taken tells a size above its limit
pub record SizeCaused (which : Limit) (side : Side) (put : List PeerIn) (book : Book) : Type 0 where
  pub told : Told side (faults.Limit which) book
  pub behind : Waiting side put book told.story
  pub above : TellsAbove which side (now side told.story) behind.waits

-- what would be recorded next is too heavy: a message, or frames
pub record MarkCaused (side : Side) (put : List PeerIn) (book : Book) : Type 0 where
  pub told : Told side (faults.Limit limits.Trail) book
  pub behind : Waiting side put book told.story
  pub mark : Mark
  pub lawful : Lawful (now side told.story) mark
  pub comes : ComesNext (now side told.story) behind.waits mark
  pub heavy : MOST_WEIGHT < weight book.trail + mark_cost (Some mark)

-- or the frame of an item that was put next
pub record MadeCaused (side : Side) (put : List PeerIn) (book : Book) : Type 0 where
  pub told : Told side (faults.Limit limits.Trail) book
  pub next : ItemNext side put book
  pub frame : Frame
  pub tables : Tables
  pub makes : pipe_turn (now side told.story).tables (now side told.story).taking next.pipe
      ≡ Makes frame tables
  pub heavy : MOST_WEIGHT < weight book.trail + length (spelling frame)

-- or so many bytes that came in one piece
pub record PieceCaused (book : Book) : Type 0 where
  pub size : ℕ
  pub few : size ≤ MOST_PIECE
  pub heavy : MOST_WEIGHT < weight book.trail + size

-- or the bytes that were to be written next, or the line of the next connection
abbrev pub TrailCaused : Side → List PeerIn → Book → Type 0
TrailCaused side put book =
    MarkCaused side put book ⊎ (MadeCaused side put book ⊎ (PieceCaused book
    ⊎ (RefusesFront (faults.Limit limits.Trail) book.trail
    ⊎ (MOST_WEIGHT < weight book.trail + ITEM_WEIGHT))))

abbrev pub LimitCaused : Limit → Side → List PeerIn → Book → ℕ → Type 0
LimitCaused limits.File side put book made = SizeCaused limits.File side put book
LimitCaused limits.Files side put book made = SizeCaused limits.Files side put book
LimitCaused limits.Trail side put book made = TrailCaused side put book
LimitCaused limits.Connections side put book made = MOST_CONNECTIONS ≤ made
LimitCaused which side put book made = ⊥

-- ---- any fault

-- Why a side met its fault, whose peer puts these items, where so many connections were made. A
-- frame is refused as the law of the records says, and memory may run out anywhere.
abbrev pub Caused : Side → List PeerIn → Book → ℕ → ProxyFault → Type 0
Caused side put book made (faults.Frame connection place cause) =
    Told side (faults.Frame connection place cause) book
Caused side put book made (faults.Peer index cause) = PeerCaused side put book index cause
Caused side put book made (faults.Limit which) = LimitCaused which side put book made
Caused side put book made faults.Memory = Unit {0}

-- Where a run ends with a fault, its cause stands.
abbrev pub FaultsAreCaused : Type 0
FaultsAreCaused = (steps : List Step) (played : List Played) (last : State) (it : Fault)
    → Runs steps played last (Fails it)
    → Caused it.side (items_put it.side played) (side_at it.side last).book (connections last)
    it.fault
