use Rattle.std.proofs.Common.{◌≡◌, ◌-◌, length, All}
use Rattle.copy_workers.specs.Hands.{all_parts}
use Rattle.copy_workers.specs.Crews.{fresh}
use Rattle.copy_workers.proofs.crews.open_crew.Given as goal

-- each worker so far has one part of each port
abbrev pub invariant-loop : goal.invariant-loop
invariant-loop g l = record {
  jobs : l.jobs ≡ record l.initial.jobs { parts = all_parts - l.counter };
  results : l.results ≡ record l.initial.results { parts = all_parts - l.counter };
  notice : l.notice ≡ l.initial.notice;
  count : length l.list ≡ l.counter;
  workers : All (λ w. w ≡ fresh record {
    jobs = l.initial.jobs.queue;
    results = l.initial.results.queue;
    notice = l.initial.notice.table;
  }) l.list;
}
