-- The frames so far are weighed, and are not too heavy.
use Rattle.std.proofs.Common.{◌≡◌, ◌+◌, ◌≤◌, take}
use Rattle.std.specs.Prelude.{sum_by}
use Rattle.side_model.specs.Books.{MOST_WEIGHT, spelled}
use Rattle.trail_records.proofs.weighing.with_frames.Given as goal

abbrev pub invariant-loop-frame : goal.invariant-loop-frame
invariant-loop-frame l = (l.total ≡ l.weight + sum_by spelled (take l.frame-index l.frames)) × (l.total ≤ MOST_WEIGHT)
