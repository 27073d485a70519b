use Rattle.std.proofs.Common.{All}
use Rattle.copy_workers.specs.Copies.{IsReady}
use Rattle.copy_workers.proofs.InTurn.{InTurn}
use Rattle.copy_workers.proofs.threads.copy_in_turn.Given as goal

abbrev pub invariant-loop-job : goal.invariant-loop-job
invariant-loop-job l = InTurn l.fn.jobs.items l.job-iterator.rest.items l.dones.items × All IsReady l.job-iterator.rest.items
