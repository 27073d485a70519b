use Rattle.std.proofs.Common.{◌≡◌, ◌++◌, ◌∙◌, ap, sym, subst, length, List, All, IfOk}
use Rattle.copy_workers.specs.Copies.{DoneState}
use Rattle.copy_workers.specs.Crews.{CrewId, ChiefState, WorkerState, EachOnce, fresh}
use Rattle.copy_workers.proofs.ComeBackProofs.{pools_are_kept}
use Rattle.copy_workers.proofs.tests.crews.copies_of.Goals as goal

pub leftovers-requires : goal.leftovers-requires
leftovers-requires g c =
    let chief : ChiefState = c.args.chief in
    let closed : ChiefState = c.in_ok-closed.closed in
    let spent : List WorkerState = c.in_ok-spent.spent in
    let workers : List WorkerState = c.args.workers.items in
    let asked : (closed.crew ≡ chief.crew) × (closed.workers ≡ chief.workers) =
    subst (λ r. IfOk r (λ (p : ChiefState × List DoneState). (p.0.crew ≡ chief.crew) × (p.0.workers ≡ chief.workers)))
    c.in_ok-closed.was c.join-asked.ensures.first.0 in
    let count : length spent ≡ length workers =
    subst (λ r. IfOk r (λ (s : List WorkerState). length s ≡ length workers)) c.in_ok-spent.was c.join-asked.ensures.second.0 in
    let crew : All (λ s. s.crew ≡ chief.crew) spent =
    (subst (λ r. IfOk r (λ (s : List WorkerState). (crew : CrewId) → All (λ w. w ≡ fresh crew) workers → All (λ t. t.crew ≡ crew) s))
    c.in_ok-spent.was c.join-asked.ensures.second.1) chief.crew c.requires.workers in (
      count ∙ sym (asked.1 ∙ ap (λ (s : ChiefState). s.workers) c.requires.chief),
      subst (λ (crew : CrewId). All (λ s. s.crew ≡ crew) spent) (sym asked.0) crew,
    )

pub returns : goal.returns
returns g c =
    let eye = c.args.eye in
    let closed : ChiefState = c.in_ok-closed.closed in
    let dones : List DoneState = c.in_ok-closed.dones in
    let left : List DoneState = c.in_ok-left.left in
    let gathered : closed.gathered ≡ dones =
    subst (λ r. IfOk r (λ (p : ChiefState × List DoneState). p.0.gathered ≡ p.1)) c.in_ok-closed.was c.join-asked.ensures.first.1.0 in
    let pool : All (λ job. (job.eye.pool ≡ eye.pool) × (job.eye.number ≡ eye.number)) closed.offered =
    subst (λ r. IfOk r (λ (p : ChiefState × List DoneState). All (λ job. (job.eye.pool ≡ eye.pool) × (job.eye.number ≡ eye.number)) p.0.offered))
    c.in_ok-closed.was c.join-asked.ensures.first.1.1 in
    let once : EachOnce closed.offered (dones ++ left) =
    subst (λ (l : List DoneState). EachOnce closed.offered (l ++ left)) gathered c.in_ok-left.ensures.once in
    subst (λ (l : List DoneState). All (λ d. (d.receipt.pool ≡ eye.pool) × (d.receipt.number ≡ eye.number)) l)
    (sym c.in_ok-append_list.ensures.ok) (pools_are_kept closed.offered (dones ++ left) eye.pool eye.number once pool)
