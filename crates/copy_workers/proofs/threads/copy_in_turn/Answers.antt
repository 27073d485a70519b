use Rattle.std.proofs.Common.{◌∙◌, sym, subst}
use Rattle.copy_workers.specs.Copies.{IsReady}
use Rattle.copy_workers.proofs.InTurn.{InTurn, goes_on, ends, tail_all}
use Rattle.copy_workers.proofs.threads.copy_in_turn.Goals as goal

pub loop-job-preserved : goal.loop-job-preserved
loop-job-preserved c =
    let jobs = c.args.jobs.items in
    let rest = c.loop-job.job-iterator.rest.items in
    let less = c.next.new.self.rest.items in
    let first = c.in-Some.ensures.steps.0 in (
      subst (InTurn jobs less) (sym c.in_ok-push.ensures.items)
          (goes_on jobs rest less c.loop-job.dones.items c.in-Some.job c.copy_one.result first c.copy_one.ensures c.loop-job.invariant.0),
      tail_all IsReady rest less c.in-Some.job first c.loop-job.invariant.1,
    )

pub returns : goal.returns
returns c =
    let it = c.loop-job.job-iterator.rest in
    ends c.args.jobs.items it.items c.loop-job.dones.items (sym it.ok.0 ∙ c.in-None.ensures.steps.0) c.loop-job.invariant.0
