use Rattle.std.proofs.Common.{◌≡◌, ◌++◌, length, reverse}
use Rattle.std.specs.List.{flat_map}
use Rattle.pair_report.specs.Report.{owner_line}
use Rattle.pair_report.proofs.long.put_pipes_down.Given as goal

-- the lines of the pipes that are left complete the text
abbrev pub invariant-loop-rid : goal.invariant-loop-rid
invariant-loop-rid l =
    l.out ++ flat_map (owner_line l.shut.keys l.peer) (reverse l.left)
    ≡ l.initial.out ++ flat_map (owner_line l.shut.keys l.peer) (reverse l.flows.entries)

abbrev pub decreases-loop-rid : goal.decreases-loop-rid
decreases-loop-rid l = length l.left
