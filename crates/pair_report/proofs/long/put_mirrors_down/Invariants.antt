use Rattle.std.proofs.Common.{◌≡◌, ◌++◌, length, reverse}
use Rattle.pair_report.specs.Report.{mirror_lines}
use Rattle.pair_report.proofs.long.put_mirrors_down.Given as goal

-- the lines of the mirrors that are left complete the text
abbrev pub invariant-loop-rid : goal.invariant-loop-rid
invariant-loop-rid l = l.out ++ mirror_lines (reverse l.left) ≡ l.initial.out ++ mirror_lines (reverse l.mirrors.entries)

abbrev pub decreases-loop-rid : goal.decreases-loop-rid
decreases-loop-rid l = length l.left
