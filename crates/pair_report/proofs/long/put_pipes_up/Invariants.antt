use Rattle.std.proofs.Common.{◌≡◌, ◌++◌}
use Rattle.std.specs.List.{flat_map}
use Rattle.pair_report.specs.Report.{owner_line}
use Rattle.pair_report.proofs.long.put_pipes_up.Given as goal

-- the lines of the pipes that are left complete the text
abbrev pub invariant-loop-rid : goal.invariant-loop-rid
invariant-loop-rid l =
    l.out ++ flat_map (owner_line l.shut.keys l.peer) l.rid-iterator ≡ l.initial.out ++ flat_map (owner_line l.shut.keys l.peer) l.flows.entries
