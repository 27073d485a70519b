use Rattle.std.proofs.Common.{◌≡◌, ◌+◌, ◌<◌, ◌≤◌, drop}
use Rattle.std.specs.Prelude.{sum}
use Rattle.shm_pools.specs.Files.{pen_sizes, segment_of, offset_of}
use Rattle.shm_pools.proofs.places.place_of.Given as goal

-- the word lies in the segments from this one on
abbrev pub invariant-loop-segment : goal.invariant-loop-segment
invariant-loop-segment l = record {
  within : l.rest < sum (pen_sizes (drop l.segment l.pens));
  small : l.segment + l.rest ≤ l.word;
  segment : segment_of (pen_sizes l.pens) l.word ≡ l.segment + segment_of (pen_sizes (drop l.segment l.pens)) l.rest;
  offset : offset_of (pen_sizes l.pens) l.word ≡ offset_of (pen_sizes (drop l.segment l.pens)) l.rest;
}
