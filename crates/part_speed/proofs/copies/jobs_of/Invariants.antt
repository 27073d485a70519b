use Rattle.std.proofs.Common.{All}
use Rattle.copy_workers.specs.Copies.{IsReady}
use Rattle.part_speed.proofs.copies.jobs_of.Given as goal

abbrev pub invariant-loop-list : goal.invariant-loop-list
invariant-loop-list l = All IsReady l.jobs
