use Rattle.std.proofs.Common.{◌≡◌}
use Rattle.copy_workers.proofs.desks.put.Given as goal

-- the result is still to be put in, and nothing has changed
abbrev pub invariant-loop : goal.invariant-loop
invariant-loop g l =
    (goal.iterator-loop g).can_next l.iterator' × (goal.iterator-loop g).is_finite l.iterator' × (l.results ≡ l.fn.results) × (l.done ≡ l.fn.done)
