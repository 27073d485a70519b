use Rattle.std.proofs.Common.{ap, ◌∙◌}
use Rattle.copy_workers.specs.Crews.{WorkerState}
use Rattle.copy_workers.proofs.Together.{joins}
use Rattle.copy_workers.proofs.leavings.together.Goals as goal

pub loop-worker-preserved : goal.loop-worker-preserved
loop-worker-preserved c =
    let l = c.loop-worker in
    let theirs = c.desk.inside in
    let jobs = c.absorb.ensures in
    let results = c.absorb-in-loop-worker.ensures in
    joins c.args.chief c.args.spent l.worker-iterator.rest.items c.next.new.self.rest.items c.in-Some.worker l.jobs c.absorb.new.self theirs.jobs
    l.results c.absorb-in-loop-worker.new.self theirs.results l.notice c.compare.new.self theirs.notice
    c.in-Some.ensures.steps.0 c.desk.invariant.0 (ap (λ (w : WorkerState). w.told) (c.desk.view_is ∙ c.worker.view_is))
    jobs.parts jobs.put jobs.taken jobs.same results.parts results.put results.taken results.same c.compare.ensures.known c.compare.ensures.same l.invariant
