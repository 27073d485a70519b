use Rattle.std.proofs.Common.{◌≡◌, ◌≤◌, ◌+◌, ◌*◌, ◌++◌}
use Rattle.half_model.specs.Filling.{pieces_from}
use Rattle.owed_groups.proofs.pieces.add_pieces.Given as goal

abbrev pub invariant-loop-left : goal.invariant-loop-left
invariant-loop-left l = record {
  all : l.pieces ++ pieces_from l.left l.from l.end ≡ l.initial.pieces ++ pieces_from l.initial.left l.first l.end;
  near : l.from + 16383 * l.left ≤ l.end + 16382;
}

abbrev pub decreases-loop-left : goal.decreases-loop-left
decreases-loop-left l = l.left
