-- What a chief and the workers of its crew know, and when each job came back once; this project's
-- own.
use Rattle.std.specs.Prelude.{◌≡◌, ℕ, ◌+◌, ◌^◌, ◌-◌, Option, None, min}
use Rattle.std.specs.Prelude.{List, [], ◌∷◌, ◌++◌, length, All, IsPermutation}
use Rattle.std.specs.List.{AllZip}
use Rattle.atomic_table.specs.Seated.{TableId}
use Rattle.copy_workers.specs.declared.copies.CopyJob.{CopyJob}
use Rattle.copy_workers.specs.Copies.{DoneState, IsCopyOf}
use Rattle.copy_workers.specs.Hands.{QueueId, PortState, all_parts}

-- which crew it is: its two queues, and the notice that it is closed
pub record CrewId : Type 0 where
  pub jobs : QueueId
  pub results : QueueId
  pub notice : TableId

-- a chief: how many workers its crew has, the jobs that it offered and its queue took, and the
-- results that it gathered, in order
pub record ChiefState : Type 0 where
  pub crew : CrewId
  pub workers : ℕ
  pub offered : List CopyJob
  pub gathered : List DoneState

-- a worker: the jobs that it took and their copies, in order, and, once it was told that its crew
-- is closed, all jobs that were offered
pub record WorkerState : Type 0 where
  pub crew : CrewId
  pub jobs : List CopyJob
  pub copies : List DoneState
  pub told : Option (List CopyJob)

-- a worker that has done nothing
abbrev pub fresh : CrewId → WorkerState
fresh crew = record { crew = crew; jobs = []; copies = []; told = None }

-- a chief that has offered and gathered nothing
abbrev pub opened : CrewId → ℕ → ChiefState
opened crew workers = record { crew = crew; workers = workers; offered = []; gathered = [] }

-- one job more was offered
abbrev pub with_offered : CopyJob → ChiefState → ChiefState
with_offered job chief = record chief { offered = chief.offered ++ job ∷ [] }

-- one result more was gathered
abbrev pub with_gathered : DoneState → ChiefState → ChiefState
with_gathered done chief = record chief { gathered = chief.gathered ++ done ∷ [] }

-- the results are copies of the jobs, one each: both lists in some order, each result is the copy
-- of its job
pub record EachOnce (jobs : List CopyJob) (results : List DoneState) : Type 0 where
  pub order : List CopyJob
  pub copies : List DoneState
  pub all_jobs : IsPermutation order jobs
  pub all_results : IsPermutation copies results
  pub each : AllZip IsCopyOf order copies

-- these are all workers of this crew, ended
abbrev pub AreAllOf : ChiefState → List WorkerState → Type 0
AreAllOf chief spent = (length spent ≡ chief.workers) × All (λ s. s.crew ≡ chief.crew) spent

-- the ports of a chief with so many workers: it has all parts but one for each of them, took no job
-- and put no result
pub record HasPorts (workers : ℕ) (jobs : PortState CopyJob)
    (results : PortState DoneState) : Type 0 where
  pub job_parts : jobs.parts + workers ≡ all_parts
  pub result_parts : results.parts + workers ≡ all_parts
  pub no_job : jobs.taken ≡ []
  pub no_result : results.put ≡ []

-- the ports of a worker: one part each, no job was put and no result taken, and the results are the
-- copies of the jobs
pub record HasDesk (jobs : PortState CopyJob) (results : PortState DoneState) : Type 0 where
  pub job_parts : jobs.parts ≡ 1
  pub result_parts : results.parts ≡ 1
  pub no_job : jobs.put ≡ []
  pub no_result : results.taken ≡ []
  pub copied : AllZip IsCopyOf jobs.taken results.put

-- a count of a list, which stands still at the end of its type
abbrev pub Counts : {T : Type 0} → ℕ → List T → Type 0
Counts n list = n ≡ min (length list) (2 ^ 64 - 1)

-- of the jobs that were put, these were taken, and these are the copies of the rest
pub record CopiesRest (put taken : List CopyJob) (dones : List DoneState) : Type 0 where
  pub rest : List CopyJob
  pub all_jobs : IsPermutation put (taken ++ rest)
  pub each : AllZip IsCopyOf rest dones
