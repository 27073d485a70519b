use Rattle.std.proofs.Common.{◌≡◌, take, drop, map}
use Rattle.trail_records.specs.Rows.{line_of}
use Rattle.pair_report.specs.Heard.{counted_on}
use Rattle.pair_report.specs.Meant.{with_frames}
use Rattle.pair_report.proofs.heard.take_lines.Given as goal

-- the frames of the connections that are left complete the meaning
abbrev pub invariant-loop-line : goal.invariant-loop-line
invariant-loop-line l =
    with_frames (take l.left (counted_on (map line_of (drop l.line-index l.lines)))) l.meaning
    ≡ with_frames (take l.count (counted_on (map line_of l.lines))) l.initial.meaning
