-- What follows for a caller where each job came back once; this project's own.
use Rattle.std.specs.Prelude.{◌≡◌, ℕ, ◌==◌, List, length, count_by, All, Any, Contains}
use Rattle.pool_words.specs.Views.{PoolId}
use Rattle.copy_workers.specs.declared.copies.CopyJob.{CopyJob}
use Rattle.copy_workers.specs.Copies.{DoneState, IsCopyOf}
use Rattle.copy_workers.specs.Crews.{EachOnce}

-- there are as many results as jobs
abbrev pub AsManyComeBack : Type 0
AsManyComeBack =
    (jobs : List CopyJob) (results : List DoneState) → EachOnce jobs results
    → length results ≡ length jobs

-- each id stands at as many results as at jobs
abbrev pub IdsComeBack : Type 0
IdsComeBack =
    (jobs : List CopyJob) (results : List DoneState) (id : ℕ) → EachOnce jobs results
    → count_by (λ d. d.id == id) results ≡ count_by (λ j. j.id == id) jobs

-- each job has its copy among the results
abbrev pub EachJobComesBack : Type 0
EachJobComesBack =
    (jobs : List CopyJob) (results : List DoneState) (job : CopyJob)
    → EachOnce jobs results → Contains jobs job → Any (IsCopyOf job) results

-- each result is the copy of a job
abbrev pub NoStrangerComesBack : Type 0
NoStrangerComesBack =
    (jobs : List CopyJob) (results : List DoneState) (done : DoneState)
    → EachOnce jobs results → Contains results done → Any (λ job. IsCopyOf job done) jobs

-- where the jobs are of one pool, the receipts of the results are of that pool, with its number
abbrev pub PoolsAreKept : Type 0
PoolsAreKept =
    (jobs : List CopyJob) (results : List DoneState) (pool : PoolId) (number : ℕ)
    → EachOnce jobs results
    → All (λ job. (job.eye.pool ≡ pool) × (job.eye.number ≡ number)) jobs
    → All (λ done. (done.receipt.pool ≡ pool) × (done.receipt.number ≡ number)) results
