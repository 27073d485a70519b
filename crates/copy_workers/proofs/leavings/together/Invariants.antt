use Rattle.copy_workers.proofs.Together.{Joined}
use Rattle.copy_workers.proofs.leavings.together.Given as goal

-- the ports so far, and the workers that are left
abbrev pub invariant-loop-worker : goal.invariant-loop-worker
invariant-loop-worker l = Joined l.fn.chief l.fn.spent l.worker-iterator.rest.items l.jobs l.results l.notice
