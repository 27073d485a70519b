use Rattle.std.proofs.Common.{◌≡◌, ◌∙◌}
use Rattle.copy_workers.proofs.InTurn.{tail_all}
use Rattle.copy_workers.proofs.tests.crews.settle_all.Goals as goal

pub loop-done-preserved : goal.loop-done-preserved
loop-done-preserved c =
    let pen = c.args.pen in
    let inv = c.loop-done.invariant in (
      tt,
      tt,
      c.settle_one.ensures.0 ∙ inv.2,
      c.settle_one.ensures.1 ∙ inv.3,
      tail_all (λ d. (d.receipt.pool ≡ pen.pool) × (d.receipt.number ≡ pen.number))
          c.loop-done.done-iterator.rest.items c.next.new.self.rest.items c.in-Some.done c.in-Some.ensures.steps.0 inv.4,
    )
