-- How the copies of a message are kept: each one's stage, their numbers, which of them were given
-- out and how many are not back; this project's own.
use Rattle.std.specs.Prelude.{◌≡◌, ℕ, zero, suc, ◌+◌, ◌≤◌, true, false, List, [], ◌∷◌}
use Rattle.std.specs.Prelude.{length, drop, Option, Some, None, cond}
use Rattle.std.specs.List.{flat_map}
use Rattle.pool_words.specs.Views.{EyeState}
use Rattle.half_model.specs.Jobs.{Job, JobState, Done, Waits, IsOut, IsBack, waits, is_back}
use Rattle.half_model.specs.Jobs.{words_of}
use Rattle.owed_groups.specs.declared.stage.Stage.{Stage}
use Rattle.owed_groups.specs.declared.stage.Stage.TheVariants as stages
use Rattle.owed_groups.specs.declared.stage.WordPlace.{WordPlace}

abbrev pub state_of : Stage → JobState
state_of (stages.Waits eye words) = Waits eye
state_of stages.IsOut = IsOut
state_of (stages.IsBack words receipt) = IsBack words receipt

-- a copy that waits has as many words as its part, which lie in the pool, and its eye has loaded
-- nothing
abbrev pub IsWaiting : ℕ → ℕ → EyeState → List ℕ → Type 0
IsWaiting first count eye words =
    (length words ≡ count) × (first + count ≤ eye.words) × (eye.seen ≡ [])

abbrev pub IsStage : ℕ → ℕ → Stage → Type 0
IsStage first count (stages.Waits eye words) = IsWaiting first count eye words
IsStage first count stages.IsOut = Unit {0}
IsStage first count (stages.IsBack words receipt) = Unit {0}

-- ---- all copies

-- the jobs have the numbers from `next` on
abbrev pub AreNumbered : ℕ → List Job → Type 0
AreNumbered next [] = Unit {0}
AreNumbered next (job ∷ jobs) = (job.id ≡ next) × AreNumbered (next + 1) jobs

-- the jobs before a place do not wait, and those from it on do
abbrev pub AreGiven : ℕ → List Job → Type 0
AreGiven place [] = place ≡ 0
AreGiven zero (job ∷ jobs) = (waits job.state ≡ true) × AreGiven zero jobs
AreGiven (suc place) (job ∷ jobs) = (waits job.state ≡ false) × AreGiven place jobs

-- how many jobs are not back
abbrev pub missing : List Job → ℕ
missing [] = 0
missing (job ∷ jobs) = cond (is_back job.state) (missing jobs) (suc (missing jobs))

pub record AreKept (first given left : ℕ) (jobs : List Job) : Type 0 where
  pub numbered : AreNumbered first jobs
  pub lends : AreGiven given jobs
  pub lacks : missing jobs ≡ left

-- ---- one copy

abbrev pub if_waits : Job → Option Job
if_waits job = cond (waits job.state) (Some job) None

-- a copy that waits goes out
abbrev pub given_out : Job → Job
given_out job = cond (waits job.state) (record job { state = IsOut }) job

abbrev pub back_with : Done → Job → Job
back_with done job = record job { state = IsBack done.words done.receipt }

-- ---- words

-- the words that came back, one after another
abbrev pub all_words : List Job → List ℕ
all_words jobs = flat_map (λ job. words_of job.state) jobs

-- the words from a place on: so many words behind the first of a job
abbrev pub words_from : WordPlace → List Job → List ℕ
words_from place jobs = drop place.word (all_words (drop place.job jobs))
