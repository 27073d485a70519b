-- The ring, with the frames that are left, is the ring with all frames, and it has places for them.
use Rattle.std.proofs.Common.{◌≡◌, length}
use Rattle.pair_model.specs.RingState.{ring_push_all}
use Rattle.proxy_core.specs.Making.{HasPlaces}
use Rattle.proxy_core.proofs.making.push_all.Given as goal

abbrev pub invariant-frames : goal.invariant-frames
invariant-frames l = record {
  all : ring_push_all l.frames.items l.ring ≡ ring_push_all l.fn.frames.items l.fn.ring;
  places : HasPlaces l.ring l.frames.items;
}

abbrev pub decreases-frames : goal.decreases-frames
decreases-frames l = length l.frames.items
