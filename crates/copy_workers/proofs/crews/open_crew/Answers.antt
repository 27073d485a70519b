use Rattle.std.proofs.Common.{◌≡◌, ◌+◌, ◌-◌, ℕ, List, [], ◌∷◌, ◌++◌, length, All, sym, ap, ◌∙◌, subst, arith}
use Rattle.std.proofs.lemmas.List.{length-append}
use Rattle.std.proofs.lemmas.List.Elements.{All-append}
use Rattle.copy_workers.specs.declared.copies.CopyJob.{CopyJob}
use Rattle.copy_workers.specs.Copies.{DoneState}
use Rattle.copy_workers.specs.Hands.{PortState, all_parts}
use Rattle.copy_workers.specs.Crews.{CrewId, WorkerState, fresh}
use Rattle.copy_workers.proofs.Together.{all_one}
use Rattle.copy_workers.proofs.crews.open_crew.Goals as goal

pub loop-preserved : goal.loop-preserved
loop-preserved g c =
    let n = c.loop.counter in
    let before = c.loop.invariant in
    let asked = c.in_ok-desk.ensures in
    let first : PortState CopyJob = c.in_ok-jobs.jobs in
    let second : PortState DoneState = c.in_ok-results.results in
    let crew : CrewId = record { jobs = first.queue; results = second.queue; notice = c.in_ok-notice.notice.table } in
    let desk : WorkerState = c.in_ok-desk.desk in
    let list : List WorkerState = c.loop.list in
    let pushed : c.push.new.self ≡ list ++ desk ∷ [] = c.in_ok-push.ensures.ok in
    let less : (all_parts - n) - 1 ≡ all_parts - (n + 1) = omega arith in
    let same : fresh (record { jobs = c.loop.jobs.queue; results = c.loop.results.queue; notice = c.loop.notice.table }) ≡ fresh crew =
    λ i. fresh (record { jobs = (before.jobs i).queue; results = (before.results i).queue; notice = (before.notice i).table }) in
    record {
      jobs = asked.jobs ∙ ap (λ (p : PortState CopyJob). record p { parts = p.parts - 1 }) before.jobs ∙ ap (λ (k : ℕ). record first { parts = k }) less;
      results = asked.results ∙ ap (λ (p : PortState DoneState). record p { parts = p.parts - 1 }) before.results ∙ ap (λ (k : ℕ). record second { parts = k }) less;
      notice = asked.notice ∙ before.notice;
      count = ap length pushed ∙ length-append list (desk ∷ []) ∙ ap (λ (k : ℕ). k + 1) before.count;
      workers = subst (All (λ (w : WorkerState). w ≡ fresh crew)) (sym pushed)
          (All-append (λ (w : WorkerState). w ≡ fresh crew) list (desk ∷ []) before.workers (all_one (λ (w : WorkerState). w ≡ fresh crew) desk (asked.desk ∙ same)));
    }
