-- What the frames of a group need of the ring, and what the helpers that make them leave; frames are
-- this project's own.
use Rattle.std.specs.Prelude.{ℕ, ◌+◌, ◌≤◌, List, [], length}
use Rattle.std.specs.List.{AllByRecursion}
use Rattle.transfer_frames.specs.declared.frame.TheConstants.{LARGEST_FRAME}
use Rattle.pair_model.specs.LinkFaults.{MOST_FRAMES}
use Rattle.pair_model.specs.RingState.{RingState, RING_PLACES, ring_made}
use Rattle.send_half.specs.SendState.{SendState}

-- the ring has places for these frames, and they can be counted
pub record HasPlaces (ring : RingState) (frames : List (List ℕ)) : Type 0 where
  pub places : length ring.frames + length frames ≤ RING_PLACES
  pub counted : ring_made ring + length frames ≤ MOST_FRAMES
  pub sizes : AllByRecursion (λ bytes. length bytes ≤ LARGEST_FRAME) frames

-- the half without what it made and noted
abbrev pub without_frames : SendState → SendState
without_frames s = record s { frames = [] }

abbrev pub without_notes : SendState → SendState
without_notes s = record s { noted = [] }

abbrev pub emptied : SendState → SendState
emptied s = record s { frames = []; noted = [] }
