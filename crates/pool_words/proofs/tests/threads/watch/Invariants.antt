use Rattle.std.proofs.Common.{◌≡◌}
use Rattle.pool_words.proofs.tests.threads.watch.Given as goal

abbrev pub invariant-loop : goal.invariant-loop
invariant-loop l = (l.eye.pool ≡ l.fn.eye.pool) × (l.eye.number ≡ l.fn.eye.number) × (l.eye.words ≡ l.fn.eye.words)
