use Rattle.std.proofs.Common.{◌≡◌, All}
use Rattle.copy_workers.proofs.tests.crews.settle_all.Given as goal

-- the copies that are left are of the pen's pool
abbrev pub invariant-loop-done : goal.invariant-loop-done
invariant-loop-done l =
    (goal.iterator-loop-done).can_next l.done-iterator × (goal.iterator-loop-done).is_finite l.done-iterator
    × (l.pen.pool ≡ l.fn.pen.pool) × (l.pen.number ≡ l.fn.pen.number)
    × All (λ d. (d.receipt.pool ≡ l.fn.pen.pool) × (d.receipt.number ≡ l.fn.pen.number)) l.done-iterator.rest.items
