use Rattle.std.proofs.Common.{[], ◌∷◌, All, sym, subst}
use Rattle.std.proofs.lemmas.List.Elements.{All-append, All-cons, All-nil}
use Rattle.copy_workers.specs.declared.copies.CopyJob.{CopyJob}
use Rattle.copy_workers.specs.Copies.{IsReady}
use Rattle.part_speed.proofs.copies.jobs_of.Goals as goal

pub loop-list-preserved : goal.loop-list-preserved
loop-list-preserved c =
    let job : CopyJob = c.in_ok-job_within.field-0 in
    subst (All IsReady) (sym c.in_ok-push.ensures.ok)
    (All-append IsReady c.loop-list.jobs (job ∷ []) c.loop-list.invariant
    (All-cons IsReady job [] c.in_ok-job_within.ensures.ready (All-nil IsReady)))
