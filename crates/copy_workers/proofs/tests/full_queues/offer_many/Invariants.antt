use Rattle.std.proofs.Common.{◌≡◌}
use Rattle.copy_workers.proofs.tests.full_queues.offer_many.Given as goal

abbrev pub invariant-loop-id : goal.invariant-loop-id
invariant-loop-id g l = (l.chief.crew ≡ l.fn.chief.crew) × (l.chief.workers ≡ l.fn.chief.workers)
