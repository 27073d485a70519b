-- The laws of the ring of a side, which is this project's own: each step keeps it the row of the
-- frames made from the acknowledged count on.
use Rattle.std.specs.Prelude.{◌≡◌, ℕ, ◌≤◌, List, ◌∷◌, [], ◌++◌, length, map}
use Rattle.transfer_frames.specs.declared.frame.Frame.{Frame}
use Rattle.transfer_frames.specs.Grammar.{spelling}
use Rattle.pair_model.specs.RingState.{RingState, ring_new, ring_made, ring_push, ring_push_all}
use Rattle.pair_model.specs.RingState.{ring_ack, ring_at, IsRingOf}
use Rattle.pair_model.specs.Steps.{bytes_at}

-- a new ring is that of no frames
abbrev pub NewRing : Type 0
NewRing = IsRingOf [] ring_new

-- it tells how many frames were made
abbrev pub RingMade : Type 0
RingMade = (made : List Frame) (ring : RingState) → IsRingOf made ring
    → ring_made ring ≡ length made

-- one more frame is made, or several
abbrev pub RingPushed : Type 0
RingPushed = (made : List Frame) (ring : RingState) (frame : Frame) → IsRingOf made ring
    → IsRingOf (made ++ frame ∷ []) (ring_push (spelling frame) ring)

abbrev pub RingPushedAll : Type 0
RingPushedAll = (made : List Frame) (ring : RingState) (more : List Frame) → IsRingOf made ring
    → IsRingOf (made ++ more) (ring_push_all (map spelling more) ring)

-- more frames are acknowledged, of those made
abbrev pub RingAcked : Type 0
RingAcked = (made : List Frame) (ring : RingState) (n : ℕ) → IsRingOf made ring
    → ring.acknowledged ≤ n → n ≤ length made → IsRingOf made (ring_ack n ring)

-- what it holds of the frame of an index is that frame's spelling
abbrev pub RingAt : Type 0
RingAt = (made : List Frame) (ring : RingState) (index : ℕ) → IsRingOf made ring
    → ring.acknowledged ≤ index
    → ring_at index ring ≡ bytes_at made index
