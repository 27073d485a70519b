-- What it is that all receipts which a proxy gives or may come to give are its peer's own, of the
-- shared memory of wl_shm: those that wait, and those of the eyes that wait. Receipts, eyes and
-- notes are this project's own.
use Rattle.std.specs.Prelude.{◌≡◌, ℕ, ℤ, true, Some, None, slice_get}
use Rattle.std.specs.List.{AllByRecursion}
use Rattle.pool_words.specs.Views.{EyeState, ReceiptState}
use Rattle.shm_pools.specs.declared.notes.Note.{Note}
use Rattle.half_model.specs.declared.items.PeerIn.{PeerIn}
use Rattle.half_model.specs.declared.items.PeerIn.TheVariants as inputs
use Rattle.half_model.specs.declared.items.PeerOut.{PeerOut}
use Rattle.half_model.specs.declared.items.PeerOut.TheVariants as outputs
use Rattle.half_model.specs.Filling.{Part}
use Rattle.half_model.specs.Inlet.{eyes_in}
use Rattle.half_model.specs.Jobs.{Job, JobState, Waits, IsOut, IsBack, Done, is_done}
use Rattle.side_model.specs.Events.{Event, Fed, Handed}
use Rattle.side_model.specs.State.{Now}
use Rattle.side_model.specs.Trails.{TrailState}

-- which receipts are own: of a file, by its peer's number for it, and of one of its segments
abbrev pub Ownership : Type 1
Ownership = ℤ → ℕ → ReceiptState → Type 0

-- every receipt of this eye is own, and so is every other one of its pool
abbrev pub EyeIsOwn : Ownership → ℤ → ℕ → EyeState → Type 0
EyeIsOwn Own number segment eye =
    (receipt : ReceiptState) → receipt.number ≡ eye.number → receipt.pool ≡ eye.pool
    → Own number segment receipt

-- the eyes of a note are own, each where the note has it
abbrev pub NoteIsOwn : Ownership → Note → Type 0
NoteIsOwn Own note =
    (number : ℤ) (segment : ℕ) (eye : EyeState)
    → slice_get (eyes_in number (Some note)) segment ≡ Some eye → EyeIsOwn Own number segment eye

-- ---- copies

-- a copy that waits has an own eye, one that is back an own receipt
abbrev pub StateIsOwn : Ownership → Part → JobState → Type 0
StateIsOwn Own part (Waits eye) = EyeIsOwn Own part.file part.segment eye
StateIsOwn Own part IsOut = Unit {0}
StateIsOwn Own part (IsBack words receipt) = Own part.file part.segment receipt

abbrev pub JobIsOwn : Ownership → Job → Type 0
JobIsOwn Own job = StateIsOwn Own job.part job.state

-- where a copy is handed back for this job, its receipt is own
abbrev pub ReturnsOwn : Ownership → Done → Job → Type 0
ReturnsOwn Own done job = is_done done job ≡ true → Own job.part.file job.part.segment done.receipt

-- ---- items

-- a receipt that a peer is given is own
abbrev pub GivenIsOwn : Ownership → PeerOut → Type 0
GivenIsOwn Own (outputs.Receipt number segment receipt) = Own number segment receipt
GivenIsOwn Own item = Unit {0}

-- a note that a peer puts on its wire is own
abbrev pub PutIsOwn : Ownership → PeerIn → Type 0
PutIsOwn Own (inputs.Note note) = NoteIsOwn Own note
PutIsOwn Own item = Unit {0}

-- ---- a proxy

-- All of it is own: the notes that wait, the copies of the last message, and what is to be given.
pub record AllOwn (Own : Ownership) (s : Now) : Type 0 where
  pub notes : AllByRecursion (λ it. NoteIsOwn Own it.1) s.live.sending.inlet.notes
  pub jobs : AllByRecursion (JobIsOwn Own) s.kept.jobs
  pub items : AllByRecursion (GivenIsOwn Own) s.live.items
  pub receipts : AllByRecursion (GivenIsOwn Own) s.live.receipts

-- what an event has to bring: a note that is own, or a receipt that is
abbrev pub BringsOwn : Ownership → Event → Now → Type 0
BringsOwn Own (Fed item) s = PutIsOwn Own item
BringsOwn Own (Handed done) s = AllByRecursion (ReturnsOwn Own done) s.kept.jobs
BringsOwn Own event s = Unit {0}

-- of a proxy with its records, while it has not failed
abbrev pub TrailIsOwn : Ownership → TrailState → Type 0
TrailIsOwn Own t = t.fault ≡ None → AllOwn Own t.now
