use Rattle.std.proofs.Common.{List, ◌++◌, sym, subst}
use Rattle.copy_workers.specs.declared.copies.CopyJob.{CopyJob}
use Rattle.copy_workers.specs.Copies.{DoneState}
use Rattle.copy_workers.specs.Hands.{PortState}
use Rattle.copy_workers.specs.Crews.{EachOnce}
use Rattle.copy_workers.proofs.Remainders.{once}
use Rattle.copy_workers.proofs.leavings.leftovers.Goals as goal

pub returns-clause-once : goal.returns-clause-once
returns-clause-once g c =
    let whole = c.together-jobs.ensures in
    let jobs : PortState CopyJob = c.together-jobs.result.0 in
    let results : PortState DoneState = c.together-jobs.result.1 in
    let left : List DoneState = c.in_ok-left.left in
    let more : List DoneState = c.in_ok-more.more in
    subst (λ (l : List CopyJob). EachOnce l (c.args.chief.gathered ++ c.append_list.new.self)) whole.offered
    (subst (λ (l : List DoneState). EachOnce jobs.put (l ++ c.append_list.new.self)) whole.gathered
    (subst (λ (l : List DoneState). EachOnce jobs.put (results.taken ++ l)) (sym c.in_ok-append_list.ensures.ok)
    (once jobs.put jobs.taken results.taken results.put left more whole.copied c.in_ok-left.ensures c.in_ok-more.ensures)))
