use Rattle.std.proofs.Common.{◌≡◌, All}
use Rattle.copy_workers.proofs.tests.crews.ask.Given as goal

-- what was gathered is the list, and each job that was offered is of the eye's pool
abbrev pub invariant-loop : goal.invariant-loop
invariant-loop g l =
    (l.chief.crew ≡ l.fn.chief.crew) × (l.chief.workers ≡ l.fn.chief.workers) × (l.chief.gathered ≡ l.dones) × (l.eye ≡ l.fn.eye)
    × All (λ job. (job.eye.pool ≡ l.fn.eye.pool) × (job.eye.number ≡ l.fn.eye.number)) l.chief.offered
