use Rattle.std.proofs.Common.{All}
use Rattle.copy_workers.specs.Copies.{IsReady}
use Rattle.copy_workers.proofs.tests.in_order.jobs_of.Given as goal

abbrev pub invariant-loop-id : goal.invariant-loop-id
invariant-loop-id l = All IsReady l.jobs
