-- Which copy of a proxy is out, where one at a time is lent, and what is handed back of it; copies
-- are this project's own.
use Rattle.std.specs.Prelude.{◌≡◌, ℕ, List, [], ◌∷◌, ◌++◌, length, false, Option, Some, None}
use Rattle.std.specs.List.{AllByRecursion}
use Rattle.pool_words.specs.Views.{EyeState}
use Rattle.half_model.specs.Jobs.{Job, JobState, Waits, IsOut, IsBack, Done, is_out}
use Rattle.side_model.specs.Events.{Event, Handed, Lent}
use Rattle.side_model.specs.State.{Now}
use Rattle.side_model.specs.Trails.{TrailState}

-- a copy that waits has the count of writes of its eye, and the number of its eye's pool
abbrev pub FitsEye : ℕ → ℕ → JobState → Type 0
FitsEye low pool (Waits eye) = (low ≡ eye.low) × (pool ≡ eye.number)
FitsEye low pool IsOut = Unit {0}
FitsEye low pool (IsBack words receipt) = Unit {0}

abbrev pub JobFits : Job → Type 0
JobFits job = FitsEye job.low job.pool job.state

abbrev pub IsIn : Job → Type 0
IsIn job = is_out job.state ≡ false

-- the job as it is while its copy is out
abbrev pub sent_out : Job → Job
sent_out job = record job { state = IsOut }

-- The copy of this job, which waited, is out, and no other one is.
pub record OneOut (job : Job) (jobs : List Job) : Type 0 where
  pub before : List Job
  pub after : List Job
  pub row : jobs ≡ before ++ sent_out job ∷ after
  pub in_before : AllByRecursion IsIn before
  pub in_after : AllByRecursion IsIn after
  pub fits : JobFits job

-- the copy of this job is out, or none is
abbrev pub OutIs : Option Job → List Job → Type 0
OutIs None jobs = AllByRecursion IsIn jobs
OutIs (Some job) jobs = OneOut job jobs

-- The copies of a proxy, of which this one is out or none: while no message is owed there are none.
pub record CopiesAre (out : Option Job) (s : Now) : Type 0 where
  pub fit : AllByRecursion JobFits s.kept.jobs
  pub owed : s.live.sending.owes ≡ None → s.kept.jobs ≡ []
  pub one : OutIs out s.kept.jobs

-- of a proxy with its records, while it has not failed
abbrev pub TrailCopies : Option Job → TrailState → Type 0
TrailCopies out t = t.fault ≡ None → CopiesAre out t.now

-- no copy is lent or handed back by this event
abbrev pub LeavesCopies : Event → Type 0
LeavesCopies (Handed done) = ⊥
LeavesCopies Lent = ⊥
LeavesCopies event = Unit {0}

-- what is handed back is the copy of this job, as it was loaded through this eye
pub record IsBackOf (job : Job) (eye : EyeState) (done : Done) : Type 0 where
  pub id : done.id ≡ job.id
  pub first : done.first ≡ job.part.first
  pub count : length done.words ≡ job.part.count
  pub low : done.low ≡ eye.low
  pub number : done.receipt.number ≡ eye.number
  pub pool : done.receipt.pool ≡ eye.pool
