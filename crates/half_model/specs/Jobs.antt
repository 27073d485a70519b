-- The copies that a taken message waits for: each is lent out as a job and handed back with its
-- words. This project's own.
use Rattle.std.specs.Prelude.{ℕ, ◌+◌, ◌==◌, Bool, true, false, ◌&&◌, List, [], ◌∷◌, length, cond}
use Rattle.std.specs.Prelude.{Option, Some, None, find, slice_index_or}
use Rattle.std.specs.List.{filter_map, list_all, list_any}
use Rattle.pool_words.specs.Views.{EyeState, ReceiptState, no_pool}
use Rattle.half_model.specs.declared.items.FileReceipt.{FileReceipt}
use Rattle.half_model.specs.declared.notes.CopyRecord.{CopyRecord}
use Rattle.half_model.specs.Filling.{Part}

-- a copy waits with its eye, is out, or is back with its words and its receipt
pub data JobState : Type 0 where
  Waits : EyeState → JobState
  IsOut : JobState
  IsBack : List ℕ → ReceiptState → JobState

-- a copy of the words of one part: its number, the eye's count of writes and the number of its pool
pub record Job : Type 0 where
  pub id : ℕ
  pub part : Part
  pub low : ℕ
  pub pool : ℕ
  pub state : JobState

-- what is handed back
pub record Done : Type 0 where
  pub id : ℕ
  pub first : ℕ
  pub words : List ℕ
  pub low : ℕ
  pub receipt : ReceiptState

-- an eye of the same note that has loaded nothing
abbrev pub split : EyeState → EyeState
split eye = record eye { seen = [] }

-- an eye that sees nothing
abbrev pub no_eye : EyeState
no_eye = record { pool = no_pool; number = 0; words = 0; low = 0; seen = [] }

abbrev pub job_of : ℕ → Part → EyeState → Job
job_of id part eye =
    record { id = id; part = part; low = eye.low; pool = eye.number; state = Waits (split eye) }

-- one job for each part, with numbers from `next` on, each with the eye of its segment
abbrev pub jobs_of : ℕ → List EyeState → List Part → List Job
jobs_of next eyes [] = []
jobs_of next eyes (part ∷ parts) =
    job_of next part (slice_index_or eyes part.segment no_eye) ∷ jobs_of (next + 1) eyes parts

-- ---- lent and handed back

abbrev pub waits : JobState → Bool
waits (Waits eye) = true
waits IsOut = false
waits (IsBack words receipt) = false

abbrev pub is_out : JobState → Bool
is_out (Waits eye) = false
is_out IsOut = true
is_out (IsBack words receipt) = false

abbrev pub is_back : JobState → Bool
is_back (Waits eye) = false
is_back IsOut = false
is_back (IsBack words receipt) = true

-- the first job that waits
abbrev pub first_waiting : List Job → Option Job
first_waiting jobs = find (λ job. waits job.state) jobs

-- the first job that waits goes out
abbrev pub lent : List Job → List Job
lent [] = []
lent (job ∷ jobs) = cond (waits job.state) (record job { state = IsOut } ∷ jobs) (job ∷ lent jobs)

-- what is handed back is of this job
abbrev pub is_done : Done → Job → Bool
is_done done job =
    is_out job.state
    && (job.id == done.id
    && (job.part.first == done.first
    && (job.part.count == length done.words
    && (job.low == done.low && job.pool == done.receipt.number))))

-- what is handed back is of a job that is out
abbrev pub awaits : List Job → Done → Bool
awaits jobs done = list_any (is_done done) jobs

-- the job is back
abbrev pub handed : Done → List Job → List Job
handed done [] = []
handed done (job ∷ jobs) =
    cond (is_done done job) (record job { state = IsBack done.words done.receipt } ∷ jobs)
    (job ∷ handed done jobs)

abbrev pub all_back : List Job → Bool
all_back jobs = list_all (λ job. is_back job.state) jobs

-- ---- what came back

abbrev pub words_of : JobState → List ℕ
words_of (IsBack words receipt) = words
words_of state = []

abbrev pub copied : Part → ℕ → JobState → Option CopyRecord
copied part low (IsBack words receipt) = Some (record {
  file = part.file;
  segment = part.segment;
  first = part.first;
  words = words;
  low = low;
  high = receipt.high;
})
copied part low state = None

-- the copies, in the order of the jobs
abbrev pub copies_of : List Job → List CopyRecord
copies_of jobs = filter_map (λ job. copied job.part job.low job.state) jobs

abbrev pub receipt_in : Part → JobState → Option FileReceipt
receipt_in part (IsBack words receipt) =
    Some (record { number = part.file; segment = part.segment; receipt = receipt })
receipt_in part state = None

-- the receipts, in the order of the jobs
abbrev pub receipts_of : List Job → List FileReceipt
receipts_of jobs = filter_map (λ job. receipt_in job.part job.state) jobs
