-- What was taken, and behind it what the half still has, are the bytes of the frames that it had; nothing else of it is changed.
use Rattle.std.proofs.Common.{◌≡◌, ◌++◌, length, map}
use Rattle.std.specs.List.{AllByRecursion}
use Rattle.transfer_frames.specs.Grammar.{IsFrame, spelling}
use Rattle.proxy_core.specs.Making.{without_frames}
use Rattle.proxy_core.proofs.making.take_frames.Given as goal

abbrev pub invariant-frames : goal.invariant-frames
invariant-frames l = record {
  all : l.spelled.items ++ map spelling l.half.frames ≡ map spelling l.fn.half.frames;
  rest : without_frames l.half ≡ without_frames l.fn.half;
  good : AllByRecursion IsFrame l.half.frames;
}

abbrev pub decreases-frames : goal.decreases-frames
decreases-frames l = length l.half.frames
