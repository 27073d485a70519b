use Rattle.std.proofs.Common.{subst}
use Rattle.copy_workers.specs.declared.copies.CopyJob.{CopyJob}
use Rattle.copy_workers.specs.Copies.{IsCopyOf}
use Rattle.copy_workers.proofs.Remainders.{one_copied}
use Rattle.copy_workers.proofs.desks.Desk.copy_next.Goals as goal

pub invariant_of-self-2 : goal.invariant_of-self-2
invariant_of-self-2 g c =
    let done = c.copy_one-done.result in
    let is = subst (λ (j : CopyJob). IsCopyOf j done) c.into_job-job.ensures.same c.copy_one-done.ensures in (
      one_copied c.self.inside.jobs c.pop.new.self c.self.inside.results c.put.new.results c.in-Some.job done c.in-Some.ensures.some c.put.ensures is
          c.self.invariant.0,
      c.self.invariant.1,
    )

pub returns-clause-copied : goal.returns-clause-copied
returns-clause-copied g c =
    let done = c.copy_one-done.result in
    let is = subst (λ (j : CopyJob). IsCopyOf j done) c.into_job-job.ensures.same c.copy_one-done.ensures in
    (one_copied c.self.inside.jobs c.pop.new.self c.self.inside.results c.put.new.results c.in-Some.job done c.in-Some.ensures.some c.put.ensures is
    c.self.invariant.0).copied
