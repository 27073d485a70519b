-- What the copy of a row of live words is: of memory that a Wayland client hands over by wl_shm.
-- This project's own.
use Rattle.std.specs.Prelude.{◌≡◌, ℕ, ◌+◌, ◌≤◌, List, [], length, map}
use Rattle.pool_words.specs.Views.{ReceiptState, load, sights, receipt_of}
use Rattle.copy_workers.specs.declared.copies.CopyJob.{CopyJob}

-- a copy: its words, from which word on, the count of writes at the note, and what stands for the
-- loads
pub record DoneState : Type 0 where
  pub id : ℕ
  pub first : ℕ
  pub words : List ℕ
  pub low : ℕ
  pub receipt : ReceiptState

-- the receipt stands for the loads of these words, from word `first` on, each with this low, and
-- for no others
abbrev pub StandsFor : ℕ → List ℕ → ℕ → ReceiptState → Type 0
StandsFor first words low receipt =
    receipt.loads ≡ map (load low receipt.high) (sights first words)

-- the words to be copied lie in the pool, and the eye has loaded nothing
pub record IsReady (job : CopyJob) : Type 0 where
  pub within : job.first + length job.words ≤ job.eye.words
  pub unused : job.eye.seen ≡ []

-- the copy of this job: as many words as it asks for, as its eye loaded them, with the receipt of
-- that eye
pub record IsCopyOf (job : CopyJob) (done : DoneState) : Type 0 where
  pub id : done.id ≡ job.id
  pub first : done.first ≡ job.first
  pub count : length done.words ≡ length job.words
  pub low : done.low ≡ job.eye.low
  pub loads :
      done.receipt
      ≡ receipt_of (record job.eye { seen = sights job.first done.words }) done.receipt.high
  pub high : job.eye.low ≤ done.receipt.high
