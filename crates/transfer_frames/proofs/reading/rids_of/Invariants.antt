use Rattle.std.proofs.Common.{◌≡◌, ◌++◌, length, map}
use Rattle.std.specs.Int.{w32, cast_signed}
use Rattle.transfer_frames.specs.Numbers.{words_of}
use Rattle.transfer_frames.proofs.reading.rids_of.Given as goal

abbrev pub invariant-words : goal.invariant-words
invariant-words l = l.rids.items ++ map (cast_signed w32) (words_of l.rest) ≡ map (cast_signed w32) (words_of l.body)

abbrev pub decreases-words : goal.decreases-words
decreases-words l = length l.rest
