use Rattle.std.proofs.Common.{◌≡◌, List, ◌++◌}
use Rattle.std.specs.List.{AllZip}
use Rattle.copy_workers.specs.declared.copies.CopyJob.{CopyJob}
use Rattle.copy_workers.specs.Copies.{IsCopyOf}
use Rattle.copy_workers.proofs.leavings.copy_jobs.Given as goal

-- what was taken in this call was copied
abbrev pub invariant-loop : goal.invariant-loop
invariant-loop g l =
    (rest : List CopyJob) × (l.jobs ≡ record l.fn.jobs { taken = l.fn.jobs.taken ++ rest }) × AllZip IsCopyOf rest l.dones
