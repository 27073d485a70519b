use Rattle.std.proofs.Common.{◌≡◌}
use Rattle.copy_workers.proofs.chiefs.Chief.offer.Given as goal

-- the job is still to be put in, and nothing has changed
abbrev pub invariant-loop : goal.invariant-loop
invariant-loop g l =
    (goal.iterator-loop g).can_next l.iterator' × (goal.iterator-loop g).is_finite l.iterator' × (l.self-inside ≡ l.initial.self-inside) × (l.job ≡ l.fn.job)
