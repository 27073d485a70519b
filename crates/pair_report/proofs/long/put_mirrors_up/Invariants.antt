use Rattle.std.proofs.Common.{◌≡◌, ◌++◌}
use Rattle.pair_report.specs.Report.{mirror_lines}
use Rattle.pair_report.proofs.long.put_mirrors_up.Given as goal

-- the lines of the mirrors that are left complete the text
abbrev pub invariant-loop-rid : goal.invariant-loop-rid
invariant-loop-rid l = l.out ++ mirror_lines l.rid-iterator ≡ l.initial.out ++ mirror_lines l.mirrors.entries
