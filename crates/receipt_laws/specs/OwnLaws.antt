-- What holds of a proxy all of whose receipts are own: each of its calls keeps it, and what it
-- lends and gives is own; this project's own.
use Rattle.std.specs.Prelude.{◌≡◌, ℕ, ℤ, true, List, Some, None, Result}
use Rattle.wp_outside.specs.declared.kinds.Side.{Side}
use Rattle.pool_words.specs.Views.{EyeState, ReceiptState}
use Rattle.shm_pools.specs.declared.notes.Note.{Note}
use Rattle.half_model.specs.declared.items.PeerIn.TheVariants as inputs
use Rattle.half_model.specs.declared.items.PeerOut.{PeerOut}
use Rattle.half_model.specs.Jobs.{Job, Waits, Done, first_waiting, is_done}
use Rattle.side_model.specs.declared.fault.ProxyFault.{ProxyFault}
use Rattle.side_model.specs.Calls.{Part}
use Rattle.side_model.specs.Events.{Event, Fed, Handed}
use Rattle.side_model.specs.Shows.{next_item}
use Rattle.side_model.specs.State.{Now}
use Rattle.side_model.specs.Steps.{step}
use Rattle.side_model.specs.Trails.{TrailState, no_records, TrailCalls, trail_step, Sends, Lends}
use Rattle.receipt_laws.specs.Owning.{Ownership, EyeIsOwn, NoteIsOwn, GivenIsOwn}
use Rattle.receipt_laws.specs.Owning.{AllOwn, BringsOwn, TrailIsOwn}
use Rattle.receipt_laws.specs.Lending.{OneOut, IsBackOf, sent_out}

-- ---- each event keeps it

-- at first
abbrev pub OwnAtFirst : Ownership → Type 0
OwnAtFirst Own = (side : Side) (token : List ℕ) → TrailIsOwn Own (no_records side token)

-- one event
abbrev pub EventsKeepOwn : Ownership → Type 0
EventsKeepOwn Own =
    (event : Event) (s : Now) → AllOwn Own s → BringsOwn Own event s → AllOwn Own (step event s)

-- events that are due, one after another
abbrev pub PartsKeepOwn : Ownership → Type 0
PartsKeepOwn Own =
    (s t : Now) (events : List Event) → AllOwn Own s → Part s events t → AllOwn Own t

-- what an event brings has to be own: a note, and the receipt of the copy that is out
pub record NeedsOwn (Own : Ownership) : Type 0 where
  pub note : (note : Note) (s : Now) → AllOwn Own (step (Fed (inputs.Note note)) s)
      → NoteIsOwn Own note
  pub handed : (job : Job) (done : Done) (s : Now) → OneOut job s.kept.jobs
      → is_done done (sent_out job) ≡ true → AllOwn Own (step (Handed done) s)
      → Own job.part.file job.part.segment done.receipt

-- ---- each call keeps it

-- one that may fail
abbrev pub CallsKeepOwn : Ownership → Type 0
CallsKeepOwn Own =
    (event : Event) (result : Result Unit ProxyFault) (old new : TrailState) → TrailIsOwn Own old
    → (old.fault ≡ None → BringsOwn Own event old.now) → TrailCalls event result old new
    → TrailIsOwn Own new

-- the connection goes down, an item is given, a copy is lent
abbrev pub StepsKeepOwn : Ownership → Type 0
StepsKeepOwn Own =
    (event : Event) (old : TrailState) → TrailIsOwn Own old
    → (old.fault ≡ None → BringsOwn Own event old.now) → TrailIsOwn Own (trail_step event old)

-- bytes that were lent are sent
abbrev pub SendsKeepOwn : Ownership → Type 0
SendsKeepOwn Own =
    (n : ℕ) (old new : TrailState) → old.fault ≡ None → TrailIsOwn Own old → Sends n old new
    → TrailIsOwn Own new

-- bytes are lent
abbrev pub LendsKeepOwn : Ownership → Type 0
LendsKeepOwn Own =
    (result : Result Unit ProxyFault) (old new : TrailState) → TrailIsOwn Own old
    → Lends result old new → TrailIsOwn Own new

-- ---- what it lends and gives

-- the eye of the next copy is own
abbrev pub LentIsOwn : Ownership → Type 0
LentIsOwn Own =
    (s : Now) (job : Job) (eye : EyeState) → AllOwn Own s → first_waiting s.kept.jobs ≡ Some job
    → job.state ≡ Waits eye → EyeIsOwn Own job.part.file job.part.segment eye

-- and so what is handed back of it may be
abbrev pub BackIsOwn : Ownership → Type 0
BackIsOwn Own =
    (s : Now) (job : Job) (eye : EyeState) (done : Done) → OneOut job s.kept.jobs
    → EyeIsOwn Own job.part.file job.part.segment eye → IsBackOf job eye done
    → BringsOwn Own (Handed done) s

-- the next item is own
abbrev pub GivesOwn : Ownership → Type 0
GivesOwn Own =
    (s : Now) (item : PeerOut) → AllOwn Own s → next_item s.live ≡ Some item → GivenIsOwn Own item

-- ---- more may be own

-- what is own stays so
abbrev pub Grows : Ownership → Ownership → Type 0
Grows Own Other =
    (number : ℤ) (segment : ℕ) (receipt : ReceiptState) → Own number segment receipt
    → Other number segment receipt

pub record MoreIsOwn (Own Other : Ownership) : Type 0 where
  pub eye : (number : ℤ) (segment : ℕ) (eye : EyeState) → Grows Own Other
      → EyeIsOwn Own number segment eye → EyeIsOwn Other number segment eye
  pub proxy : (s : Now) → Grows Own Other → AllOwn Own s → AllOwn Other s
  pub trail : (t : TrailState) → Grows Own Other → TrailIsOwn Own t → TrailIsOwn Other t
