use Rattle.std.proofs.Common.{◌≡◌, ◌++◌}
use Rattle.copy_workers.proofs.leavings.take_results.Given as goal

-- what was taken in this call is in the list
abbrev pub invariant-loop : goal.invariant-loop
invariant-loop g l = l.results ≡ record l.fn.results { taken = l.fn.results.taken ++ l.left }
