use Rattle.std.proofs.Common.{◌≡◌, ◌-◌, ◌≤◌, length}
use Rattle.waypipe_run.specs.Moving.{Took}
use Rattle.waypipe_run.proofs.reading.read_pieces.Given as goal

-- the bytes are those that were taken
abbrev pub invariant-pieces : goal.invariant-pieces
invariant-pieces g l = record {
  taken : Took (g.S.Source.left l.initial.input) (g.S.Source.left l.input) l.bytes;
  faults : g.S.Source.faults l.input ≡ g.S.Source.faults l.initial.input;
  bounded : length l.bytes ≤ 16777217;
}

abbrev pub decreases-pieces : goal.decreases-pieces
decreases-pieces g l = 16777217 - length l.bytes
