-- What holds of every ring of a side, whatever was made and acknowledged: this project's own.
use Rattle.std.specs.Prelude.{◌≡◌, ℕ, ◌≤◌, length}
use Rattle.std.specs.List.{All}
use Rattle.transfer_frames.specs.declared.frame.TheConstants.{LARGEST_FRAME}
use Rattle.pair_model.specs.LinkFaults.{MOST_FRAMES}
use Rattle.pair_model.specs.RingState.{RingState, RING_PLACES, ring_made, ring_held}

-- There are no more frames than places, no more were made than can be counted, and none is longer
-- than a frame may be.
pub record IsSound (ring : RingState) : Type 0 where
  pub places : length ring.frames ≤ RING_PLACES
  pub made : ring_made ring ≤ MOST_FRAMES
  pub sizes : All (λ frame. length frame ≤ LARGEST_FRAME) ring.frames

-- A ring's places and its count of bytes are those of the frames that it keeps.
pub record IsCounted (capacity held : ℕ) (ring : RingState) : Type 0 where
  pub capacity_is : capacity ≡ RING_PLACES
  pub held_is : held ≡ ring_held ring
  pub sound : IsSound ring
