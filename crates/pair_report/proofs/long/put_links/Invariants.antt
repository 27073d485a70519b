use Rattle.std.proofs.Common.{◌≡◌, ◌++◌, map}
use Rattle.trail_records.specs.Rows.{line_of}
use Rattle.pair_report.specs.Report.{links}
use Rattle.pair_report.proofs.LinkWalk.{IsLeft}
use Rattle.pair_report.proofs.long.put_links.Given as goal

-- the lines of the connections so far, and what is left of both sides' lines
abbrev pub invariant-loop-connection : goal.invariant-loop-connection
invariant-loop-connection l = record {
  near : IsLeft l.connection (map line_of l.near) (map line_of l.near_left);
  far : IsLeft l.connection (map line_of l.far) (map line_of l.far_left);
  lines : l.out ≡ l.initial.out ++ links l.connection (map line_of l.near) (map line_of l.far);
}
