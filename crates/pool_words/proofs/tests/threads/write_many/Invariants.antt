use Rattle.std.proofs.Common.{◌≡◌}
use Rattle.pool_words.proofs.tests.threads.write_many.Given as goal

abbrev pub invariant-loop-i : goal.invariant-loop-i
invariant-loop-i l = (l.pen.pool ≡ l.fn.pen.pool) × (l.pen.number ≡ l.fn.pen.number) × (l.pen.words ≡ l.fn.pen.words)
