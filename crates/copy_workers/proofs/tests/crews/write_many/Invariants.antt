use Rattle.std.proofs.Common.{◌≡◌}
use Rattle.copy_workers.proofs.tests.crews.write_many.Given as goal

abbrev pub invariant-loop-i : goal.invariant-loop-i
invariant-loop-i l = (l.pen.words ≡ 64) × (l.pen.pool ≡ l.fn.pen.pool) × (l.pen.number ≡ l.fn.pen.number)
