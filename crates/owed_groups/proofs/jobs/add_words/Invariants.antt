use Rattle.std.proofs.Common.{◌≡◌, ◌+◌, ◌++◌, drop, length}
use Rattle.half_model.specs.Filling.{parts_from}
use Rattle.half_model.specs.Jobs.{jobs_of}
use Rattle.owed_groups.specs.JobSteps.{eyes_words}
use Rattle.owed_groups.proofs.jobs.add_words.Given as goal

abbrev pub invariant-loop-segment : goal.invariant-loop-segment
invariant-loop-segment l = record {
  jobs : l.slots.items
      ++ jobs_of (l.next + length l.slots.items) l.fn.eyes (parts_from l.file.number l.segment (eyes_words (drop l.segment l.fn.eyes)) l.from l.until)
      ≡ l.fn.slots.items
      ++ jobs_of (l.next + length l.fn.slots.items) l.fn.eyes (parts_from l.file.number 0 (eyes_words l.fn.eyes) l.first l.end);
  same : l.eyes ≡ l.fn.eyes;
}
