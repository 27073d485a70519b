use Rattle.std.proofs.Common.{◌≡◌, ◌-◌, ◌*◌, sum, drop}
use Rattle.block_intervals.specs.Sets.{last_end}
use Rattle.owed_groups.proofs.eyes.covers.Given as goal

abbrev pub invariant-loop-words : goal.invariant-loop-words
invariant-loop-words l =
    l.left - sum (drop l.words-index l.segments) ≡ 8 * last_end 0 l.runs - sum l.segments
