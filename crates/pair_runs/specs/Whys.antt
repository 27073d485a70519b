-- Why a call of a side meets its fault: what the fault tells of the message or the item that its
-- peer put, and of its records. Messages are Wayland's, all else is this project's own.
use Rattle.std.specs.Prelude.{◌≡◌, ℕ, ◌+◌, ◌<◌, ◌≤◌, Bool, true, false, List, []}
use Rattle.std.specs.Prelude.{◌∷◌, ◌++◌, length, Option, Some, None, Ok, ◌⊎◌}
use Rattle.wp_outside.specs.declared.kinds.Side.{Side}
use Rattle.wp_outside.specs.declared.pipe_items.PipeItem.{PipeItem}
use Rattle.wl_wire.specs.Wire.{first}
use Rattle.wl_tables.specs.declared.way.Way.{Way}
use Rattle.wl_objects.specs.Entries.{Tracked, first_objects}
use Rattle.wl_objects.specs.Tracking.{track}
use Rattle.transfer_frames.specs.declared.frame.Frame.{Frame}
use Rattle.transfer_frames.specs.declared.frame.Frame.TheVariants as frames
use Rattle.transfer_frames.specs.Grammar.{IsFrame, spelling}
use Rattle.half_model.specs.declared.causes.Limit.{Limit}
use Rattle.half_model.specs.declared.causes.Limit.TheVariants as limits
use Rattle.half_model.specs.declared.causes.PeerCause.{PeerCause}
use Rattle.half_model.specs.declared.causes.PeerCause.TheVariants.{PipeUnknown}
use Rattle.half_model.specs.declared.items.PeerIn.{PeerIn}
use Rattle.half_model.specs.declared.items.PeerIn.TheVariants as inputs
use Rattle.half_model.specs.Group.{Owed}
use Rattle.half_model.specs.Inlet.{Inlet}
use Rattle.half_model.specs.Log as marks
use Rattle.half_model.specs.Log.{Mark, LogState, Lawful}
use Rattle.half_model.specs.PipeTurn.{Makes, pipe_turn}
use Rattle.half_model.specs.Story.{order_in}
use Rattle.half_model.specs.StoryLaws.{now}
use Rattle.half_model.specs.Tables.{Tables}
use Rattle.half_model.specs.Turn.{stands_in}
use Rattle.pair_model.specs.Lines.{Line}
use Rattle.pair_model.specs.Rows.{spellings}
use Rattle.side_model.specs.declared.fault.ProxyFault.{ProxyFault}
use Rattle.side_model.specs.declared.fault.ProxyFault.TheVariants as faults
use Rattle.side_model.specs.Books.{Book, TrailRecord, weight, mark_cost, MOST_WEIGHT, ITEM_WEIGHT}
use Rattle.side_model.specs.Calls.{MOST_CONNECTIONS}
use Rattle.side_model.specs.Records.{Law}
use Rattle.pair_runs.specs.Causes.{MessageHas, IsUnknown, TellsAbove}
use Rattle.pair_runs.specs.Leaving.{Leaves, Passes}
use Rattle.pair_runs.specs.Sides.{Inside, TOKEN}

-- The records of a side that has met a fault are lawful: they tell a story.
abbrev pub Told : Side → ProxyFault → Book → Type 0
Told side fault book = Law side TOKEN book (Some fault)

-- what waits behind these messages that a side took, once it tracks these objects
pub record Waits (side : Side) (took : List (List ℕ)) (inside : Inside) (ways : List Way)
    (book : Book) (objects : Tracked) : Type 0 where
  pub waits : Inlet
  pub left : Leaves took inside.inlet waits
  pub passes : Passes side left.uses inside.objects objects ways book.order

-- the objects that a side tracks where a story has come to
abbrev pub tracked_by : Side → List Mark → Tracked
tracked_by side story = (now side story).tables.objects.tracked

-- ---- a fault of the peer

-- the message behind those that were taken has the cause
pub record AtMessage (side : Side) (story : List Mark) (cause : PeerCause) (took : List (List ℕ))
    (inside : Inside) (ways : List Way) (book : Book) : Type 0 where
  pub behind : Waits side took inside ways book (tracked_by side story)
  pub has : MessageHas side story behind.waits cause

-- or the item that the call brought has it, before which no more was taken, nor is there more that
-- might be
pub record AtItem (side : Side) (story : List Mark) (cause : PeerCause) (took : List (List ℕ))
    (inside : Inside) (ways : List Way) (book : Book) (item : Option PeerIn) : Type 0 where
  pub pipe : PipeItem
  pub brought : item ≡ Some (inputs.Pipe pipe)
  pub cause_is : cause ≡ PipeUnknown
  pub none : took ≡ []
  pub same : book.order ≡ ways
  pub still : stands_in (first inside.inlet.bytes) ≡ false
  pub unknown : IsUnknown (now side story) pipe

-- The cause stands at the index: the whole order of passing is tracked, as many of the peer's
-- messages were taken as the index says, and the next one, or the item, has the cause.
pub record Stands (side : Side) (item : Option PeerIn) (index : ℕ) (cause : PeerCause)
    (took : List (List ℕ)) (inside : Inside) (ways : List Way) (book : Book) : Type 0 where
  pub told : Told side (faults.Peer index cause) book
  pub index_is : index ≡ length book.trail.taken
  pub tracked : track first_objects (order_in side told.story)
      ≡ Ok (tracked_by side told.story)
  pub at : AtMessage side told.story cause took inside ways book
      ⊎ AtItem side told.story cause took inside ways book item

-- ---- a limit

-- the message behind those that were taken tells a size above its limit
pub record TellsTooMuch (which : Limit) (side : Side) (took : List (List ℕ)) (inside : Inside)
    (ways : List Way) (book : Book) : Type 0 where
  pub told : Told side (faults.Limit which) book
  pub behind : Waits side took inside ways book (tracked_by side told.story)
  pub above : TellsAbove which side (now side told.story) behind.waits

-- a frame that is made where no message is owed is CLOSE
abbrev pub IsClose : List Frame → Type 0
IsClose (frames.Close reason ∷ []) = Unit {0}
IsClose made = ⊥

abbrev pub IsMade : Option Owed → List Frame → Type 0
IsMade None made = IsClose made
IsMade (Some owed) made = Unit {0}

-- the mark may come next: a message is taken from the front of what waits, or frames are made,
-- which are those of the message that is owed, or CLOSE
abbrev pub ComesNext : LogState → Inlet → Mark → Type 0
ComesNext state waits (marks.Taken message handle segments) = first waits.bytes ≡ Ok (Some message)
ComesNext state waits (marks.Grouped made copies) = IsMade state.owes made
ComesNext state waits mark = ⊥

-- what would be recorded next is too heavy
pub record AddsTooMuch (side : Side) (took : List (List ℕ)) (inside : Inside) (ways : List Way)
    (book : Book) : Type 0 where
  pub told : Told side (faults.Limit limits.Trail) book
  pub behind : Waits side took inside ways book (tracked_by side told.story)
  pub mark : Mark
  pub lawful : Lawful (now side told.story) mark
  pub comes : ComesNext (now side told.story) behind.waits mark
  pub heavy : MOST_WEIGHT < weight book.trail + mark_cost (Some mark)

-- or the frame of the item that the call brought is
pub record MakesTooMuch (side : Side) (item : Option PeerIn) (took : List (List ℕ))
    (ways : List Way) (book : Book) : Type 0 where
  pub told : Told side (faults.Limit limits.Trail) book
  pub pipe : PipeItem
  pub brought : item ≡ Some (inputs.Pipe pipe)
  pub none : took ≡ []
  pub same : book.order ≡ ways
  pub frame : Frame
  pub tables : Tables
  pub makes : pipe_turn (now side told.story).tables (now side told.story).taking pipe
      ≡ Makes frame tables
  pub heavy : MOST_WEIGHT < weight book.trail + length (spelling frame)

abbrev pub PassesLimit : Limit → Side → Option PeerIn → List (List ℕ) → Inside → List Way → Book
    → Type 0
PassesLimit limits.File side item took inside ways book =
    TellsTooMuch limits.File side took inside ways book
PassesLimit limits.Files side item took inside ways book =
    TellsTooMuch limits.Files side took inside ways book
PassesLimit limits.Trail side item took inside ways book =
    AddsTooMuch side took inside ways book ⊎ MakesTooMuch side item took ways book
PassesLimit which side item took inside ways book = ⊥

-- ---- any fault

-- Why a call of a side meets a fault, where it took these messages of what waited and leaves these
-- records. Only a call that may hear frames refuses one; for which cause, the law of the
-- records says. Memory may run out anywhere.
abbrev pub Why : Side → Bool → Option PeerIn → ProxyFault → List (List ℕ) → Inside → List Way
    → Book → Type 0
Why side hears item (faults.Frame connection place cause) took inside ways book = hears ≡ true
Why side hears item (faults.Peer index cause) took inside ways book =
    Stands side item index cause took inside ways book
Why side hears item (faults.Limit which) took inside ways book =
    PassesLimit which side item took inside ways book
Why side hears item faults.Memory took inside ways book = Unit {0}

-- ---- what is refused at once

-- so many bytes more would be too heavy, or memory ran out
abbrev pub RefusesMore : ℕ → ProxyFault → TrailRecord → Type 0
RefusesMore size fault trail =
    ((fault ≡ faults.Limit limits.Trail) × (MOST_WEIGHT < weight trail + size))
    ⊎ (fault ≡ faults.Memory)

-- a connection has too great a number, or its line would be too heavy
abbrev pub RefusesLine : ℕ → ProxyFault → TrailRecord → Type 0
RefusesLine connection fault trail =
    ((fault ≡ faults.Limit limits.Connections) × (MOST_CONNECTIONS < connection))
    ⊎ RefusesMore ITEM_WEIGHT fault trail

-- the bytes of the frame that is being written on the last connection which are not written yet
pub record NextBytes (rows : List Line) (front : List ℕ) : Type 0 where
  pub earlier : List Line
  pub line : Line
  pub rows_are : rows ≡ earlier ++ line ∷ []
  pub sent : List Frame
  pub frame : Frame
  pub is_frame : IsFrame frame
  pub bytes : line.written ++ front ≡ spellings sent ++ spelling frame
  pub some : length front ≤ length (spelling frame)

-- they are not lent to be written
pub record RefusesFront (fault : ProxyFault) (trail : TrailRecord) : Type 0 where
  pub front : List ℕ
  pub next : NextBytes trail.lines.rows front
  pub refuses : (fault ≡ faults.Limit limits.Trail) × (MOST_WEIGHT < weight trail + length front)

abbrev pub RefusesPiece : ProxyFault → TrailRecord → Type 0
RefusesPiece fault trail = RefusesFront fault trail ⊎ (fault ≡ faults.Memory)
