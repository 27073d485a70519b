-- What is given out for a copy, and what is handed back of it; copies are this project's own.
use Rattle.std.specs.Prelude.{◌≡◌, Option, Some, None, length}
use Rattle.copy_workers.specs.Copies.{DoneState}
use Rattle.copy_workers.specs.declared.copies.CopyJob.{CopyJob}
use Rattle.half_model.specs.Jobs.{Job, Done, Waits}

-- what is handed back, as the jobs see it
abbrev pub done_of : DoneState → Done
done_of done = record {
  id = done.id;
  first = done.first;
  words = done.words;
  low = done.low;
  receipt = done.receipt;
}

-- what is given out for a job: its number, its eye and its words
pub record IsLentFor (job : Job) (copy : CopyJob) : Type 0 where
  pub id : copy.id ≡ job.id
  pub eye : job.state ≡ Waits copy.eye
  pub first : copy.first ≡ job.part.first
  pub count : length copy.words ≡ job.part.count

-- a copy is given out exactly where one waits
abbrev pub Lends : Option CopyJob → Option Job → Type 0
Lends None None = Unit {0}
Lends (Some copy) (Some job) = IsLentFor job copy
Lends copy job = ⊥
