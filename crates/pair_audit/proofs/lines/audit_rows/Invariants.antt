use Rattle.std.proofs.Common.{◌+◌, map, length}
use Rattle.trail_records.specs.Rows.{line_of}
use Rattle.pair_audit.proofs.WalkLemmas.{IsLeft}
use Rattle.pair_audit.proofs.lines.audit_rows.Given as goal

abbrev pub invariant-loop-connection : goal.invariant-loop-connection
invariant-loop-connection l =
    IsLeft (map line_of l.near) (map line_of l.far) (map line_of l.near_left) (map line_of l.far_left)

abbrev pub decreases-loop-connection : goal.decreases-loop-connection
decreases-loop-connection l = length l.near_left + length l.far_left
