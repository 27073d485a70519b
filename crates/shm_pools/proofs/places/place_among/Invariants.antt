use Rattle.std.proofs.Common.{◌≡◌, ◌+◌, ◌≤◌, drop}
use Rattle.std.specs.Prelude.{sum}
use Rattle.shm_pools.specs.Files.{eye_sizes, segment_of, offset_of}
use Rattle.shm_pools.proofs.places.place_among.Given as goal

-- the word, if the file has it, lies in the segments from this one on
abbrev pub invariant-loop-segment : goal.invariant-loop-segment
invariant-loop-segment l = record {
  passed : l.word + sum (eye_sizes (drop l.segment l.eyes)) ≡ l.rest + sum (eye_sizes l.eyes);
  small : l.segment + l.rest ≤ l.word;
  segment : segment_of (eye_sizes l.eyes) l.word ≡ l.segment + segment_of (eye_sizes (drop l.segment l.eyes)) l.rest;
  offset : offset_of (eye_sizes l.eyes) l.word ≡ offset_of (eye_sizes (drop l.segment l.eyes)) l.rest;
}
