-- The frames that a side keeps until the other side is known to have accepted them, as their bytes:
-- those made from the acknowledged count on; the link is this project's own.
use Rattle.std.specs.Prelude.{◌≡◌, ℕ, ◌+◌, ◌-◌, ◌≤◌, List, ◌∷◌, [], ◌++◌, drop, length, map, sum_by}
use Rattle.std.specs.Prelude.{Option, slice_get}
use Rattle.transfer_frames.specs.declared.frame.Frame.{Frame}
use Rattle.transfer_frames.specs.Grammar.{spelling}

-- how many of the frames made are acknowledged, and the bytes of each one behind those, oldest
-- first
pub record RingState : Type 0 where
  pub acknowledged : ℕ
  pub frames : List (List ℕ)

-- at first, with no frame made
abbrev pub ring_new : RingState
ring_new = record { acknowledged = 0; frames = [] }

-- a ring has so many places
abbrev pub RING_PLACES : ℕ
RING_PLACES = 8192

-- how many frames were made in all, how many bytes are kept, and how many places are free
abbrev pub ring_made : RingState → ℕ
ring_made ring = ring.acknowledged + length ring.frames

abbrev pub ring_held : RingState → ℕ
ring_held ring = sum_by length ring.frames

abbrev pub ring_room : RingState → ℕ
ring_room ring = RING_PLACES - length ring.frames

-- the bytes of the frame made that has an index, from the acknowledged count on
abbrev pub ring_at : ℕ → RingState → Option (List ℕ)
ring_at index ring = slice_get ring.frames (index - ring.acknowledged)

-- one more frame is made, or several
abbrev pub ring_push : List ℕ → RingState → RingState
ring_push bytes ring = record ring { frames = ring.frames ++ bytes ∷ [] }

abbrev pub ring_push_all : List (List ℕ) → RingState → RingState
ring_push_all more ring = record ring { frames = ring.frames ++ more }

-- the first n frames made are acknowledged
abbrev pub ring_ack : ℕ → RingState → RingState
ring_ack n ring = record { acknowledged = n; frames = drop (n - ring.acknowledged) ring.frames }

-- The ring holds the spellings of the frames made from the acknowledged count on.
pub record IsRingOf (made : List Frame) (ring : RingState) : Type 0 where
  pub within : ring.acknowledged ≤ length made
  pub frames_are : ring.frames ≡ map spelling (drop ring.acknowledged made)
