-- The numbers of a proxy that hold between any two events; this project's own.
use Rattle.std.specs.Prelude.{◌≡◌, ℕ, ◌+◌, ◌<◌, ◌≤◌, true, false, List, [], length, map}
use Rattle.std.specs.Prelude.{Option, Some, None}
use Rattle.std.specs.List.{AllByRecursion}
use Rattle.std.specs.Option.{MatchOption}
use Rattle.transfer_frames.specs.declared.frame.TheConstants.{LARGEST_FRAME}
use Rattle.transfer_frames.specs.Grammar.{IsFrame}
use Rattle.pool_words.specs.Views.{sights, load}
use Rattle.transfer_frames.specs.Numbers.{IsBytes, IsWord}
use Rattle.half_model.specs.declared.items.PeerIn.{PeerIn}
use Rattle.half_model.specs.declared.items.PeerIn.TheVariants as inputs
use Rattle.half_model.specs.Group.{Owed}
use Rattle.half_model.specs.Jobs.{Done, awaits}
use Rattle.half_model.specs.Turn.{MadeGroup, group_due}
use Rattle.half_model.specs.TurnLaws.{IsPiece}
use Rattle.pair_model.specs.LinkFaults.{MOST_FRAMES}
use Rattle.pair_model.specs.RingState.{RingState, RING_PLACES, ring_made}
use Rattle.pair_model.specs.StepLaws.{AreCounts}
use Rattle.pair_model.specs.Steps.{Here}
use Rattle.side_model.specs.Events.{Event, Fed, Handed, Lent, Up, Down, Came, Went, Gave, Asks}
use Rattle.side_model.specs.Events.{Told, Heard, Took, Grouped, Ended, Chose}
use Rattle.side_model.specs.Shows.{wants_peer, front_here}
use Rattle.side_model.specs.State.{Now, Closing, Made}

-- a message's frames are at most so many
abbrev pub MOST_GROUP : ℕ
MOST_GROUP = 1091

-- the places of the ring that are kept free: for the group of the message that is owed, and for
-- CLOSE
abbrev pub reserved_group : Option Owed → ℕ
reserved_group None = 0
reserved_group (Some owed) = MOST_GROUP

abbrev pub reserved_close : Closing → ℕ
reserved_close Made = 0
reserved_close closing = 1

-- the bytes of one frame
abbrev pub IsKept : List ℕ → Type 0
IsKept bytes = (0 < length bytes) × (length bytes ≤ LARGEST_FRAME)

-- the connection that is up, beside the counts of the session
pub record SoundHere (ring : RingState) (accepted last : ℕ) (here : Here) : Type 0 where
  pub number : here.connection ≤ last
  pub told : here.told ≤ accepted
  pub counts : AreCounts (ring_made ring) ring.acknowledged here
  pub idle : here.front ≡ [] → here.counts ≡ false

pub record Sound (s : Now) : Type 0 where
  pub places : length s.kept.ring.frames + reserved_group s.live.sending.owes
      + reserved_close s.kept.closing ≤ RING_PLACES
  pub frames : AllByRecursion IsKept s.kept.ring.frames
  pub few : s.kept.accepted ≤ MOST_FRAMES
  pub here : MatchOption s.live.here (Unit {0}) (SoundHere s.kept.ring s.kept.accepted s.kept.last)

-- the frames of the group that is due, if one is, are in the grammar and not too many
abbrev pub GroupFits : Now → Type 0
GroupFits s = (made : MadeGroup) → group_due s.live.sending.owes s.kept.jobs ≡ Some made
    → (length made.frames ≤ MOST_GROUP) × AllByRecursion IsFrame made.frames

-- a piece of bytes is not too long
abbrev pub MOST_PIECE : ℕ
MOST_PIECE = 65536

abbrev pub IsItem : PeerIn → Type 0
IsItem (inputs.Bytes bytes) = (1 ≤ length bytes) × (length bytes ≤ MOST_PIECE)
IsItem (inputs.Pipe item) = IsPiece item
IsItem item = Unit {0}

-- the receipt of a copy that is handed back stands for just its words
abbrev pub HasLoads : Done → Type 0
HasLoads done =
    done.receipt.loads ≡ map (load done.low done.receipt.high) (sights done.first done.words)

-- when an event may come from outside
abbrev pub Admits : Event → Now → Type 0
Admits (Fed item) s = (wants_peer s ≡ true) × IsItem item
Admits (Handed done) s = (awaits s.kept.jobs done ≡ true) × HasLoads done
Admits Lent s = Unit {0}
Admits (Up connection) s = (s.live.here ≡ None) × (s.kept.last < connection) × IsWord connection
Admits Down s = Unit {0}
Admits (Came piece) s = IsBytes piece
Admits (Went n) s = n ≤ length (front_here s.live.here)
Admits Gave s = Unit {0}
Admits (Asks reason) s = IsWord reason
Admits Told s = Unit {0}
Admits (Heard frame) s = ⊥
Admits Took s = ⊥
Admits Grouped s = ⊥
Admits Ended s = ⊥
Admits Chose s = ⊥
