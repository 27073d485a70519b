use Rattle.std.proofs.Common.{List, [], ◌∷◌, ◌++◌, ap, ◌∙◌, refl, subst, append_assoc}
use Rattle.copy_workers.specs.declared.copies.CopyJob.{CopyJob}
use Rattle.copy_workers.specs.Copies.{IsCopyOf}
use Rattle.copy_workers.specs.Hands.{PortState}
use Rattle.copy_workers.proofs.Remainders.{one_more, zip_moved}
use Rattle.copy_workers.proofs.leavings.copy_jobs.Goals as goal

pub loop-preserved : goal.loop-preserved
loop-preserved g c =
    let before = c.loop.invariant in
    let job : CopyJob = c.in-Some-pop.job in
    let done = c.copy_one.result in
    let jobs : PortState CopyJob = c.args.jobs in
    let rest : List CopyJob = before.0 in
    let is = subst (λ (j : CopyJob). IsCopyOf j done) c.into_job.ensures.same c.copy_one.ensures in (
      rest ++ job ∷ [],
      c.in-Some-pop.ensures.some ∙ ap (λ (p : PortState CopyJob). record p { taken = p.taken ++ job ∷ [] }) before.1
          ∙ ap (λ (l : List CopyJob). record jobs { taken = l }) (append_assoc jobs.taken rest (job ∷ [])),
      zip_moved refl c.in_ok-push-in-Some-pop.ensures.ok (one_more rest c.loop.dones job done before.2 is),
    )
