use Rattle.std.proofs.Common.{◌≡◌}
use Rattle.copy_workers.proofs.workers.Worker.serve.Given as goal

abbrev pub invariant-loop : goal.invariant-loop
invariant-loop g l = l.desk.crew ≡ l.initial.desk.crew
