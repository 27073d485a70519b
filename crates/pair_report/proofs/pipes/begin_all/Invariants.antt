use Rattle.std.proofs.Common.{◌≡◌}
use Rattle.pair_report.specs.Report.{begun}
use Rattle.pair_report.proofs.pipes.begin_all.Given as goal

-- the pipes that are left complete the flows
abbrev pub invariant-loop-rid : goal.invariant-loop-rid
invariant-loop-rid l = begun l.rid-iterator l.flows ≡ begun l.opened.keys l.initial.flows
