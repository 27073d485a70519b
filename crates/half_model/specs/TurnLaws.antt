-- Laws of what a half comes to next: each turn, group and pipe item is a mark that the rules of a
-- story allow, and leaves what the mark leaves. Turns and marks are this project's own.
use Rattle.std.specs.Prelude.{◌≡◌, ◌≤◌, Bool, false, List, [], ◌∷◌, ◌++◌, length, map, Some, None}
use Rattle.std.specs.List.{AllByRecursion}
use Rattle.wp_outside.specs.declared.kinds.Side.{Side}
use Rattle.transfer_frames.specs.declared.frame.Frame.{Frame}
use Rattle.wp_outside.specs.declared.pipe_items.PipeItem.{PipeItem}
use Rattle.wp_outside.specs.declared.pipe_items.PipeItem.TheVariants as items
use Rattle.half_model.specs.Content.{Taking}
use Rattle.half_model.specs.Filling.{parts_of}
use Rattle.half_model.specs.Group.{Owed, IsGroup}
use Rattle.half_model.specs.Jobs.{JobState, Waits, IsOut, IsBack, Job, Done, lent, handed}
use Rattle.half_model.specs.Log.{Mark, Taken, Grouped, Dropped, LogState, Lawful, log_next}
use Rattle.half_model.specs.PipeTurn.{Drops, Makes, pipe_turn}
use Rattle.half_model.specs.StoryLaws.{now, IsStory}
use Rattle.half_model.specs.Tables.{Tables}
use Rattle.half_model.specs.Turn.{Sending, Takes, Treated, turn, MadeGroup, group_due}

-- a side's two halves as what a story comes to
abbrev pub log_of : Tables → Sending → Taking → Bool → LogState
log_of tables s taking closed =
    record { tables = tables; shm = s.shm; taking = taking; owes = s.owes; closed = closed }

-- ---- jobs

-- a job that is back has all words of its part
abbrev pub IsWhole : Job → JobState → Type 0
IsWhole job (Waits eye) = Unit {0}
IsWhole job IsOut = Unit {0}
IsWhole job (IsBack words receipt) = length words ≡ job.part.count

-- the jobs are those of what is owed: one for each part, in order
pub record JobsOf (owed : Owed) (jobs : List Job) : Type 0 where
  pub parts : map (λ job. job.part) jobs ≡ parts_of owed.file owed.segments owed.pieces
  pub whole : AllByRecursion (λ job. IsWhole job job.state) jobs

-- that stays so while jobs are lent and handed back
pub record JobsStay : Type 0 where
  pub lent : (owed : Owed) (jobs : List Job) → JobsOf owed jobs → JobsOf owed (lent jobs)
  pub handed : (owed : Owed) (jobs : List Job) (done : Done) → JobsOf owed jobs
      → JobsOf owed (handed done jobs)

-- what is made once all are back is a group of what is owed
abbrev pub GroupIsLawful : Type 0
GroupIsLawful =
    (owed : Owed) (jobs : List Job) (group : MadeGroup)
    → JobsOf owed jobs
    → group_due (Some owed) jobs ≡ Some group
    → IsGroup owed group.copies group.frames

-- ---- a message

abbrev pub taken_mark : Treated → Mark
taken_mark t = Taken t.message t.handle t.segments

-- the message that a turn takes may be taken, and leaves what its mark leaves; its bytes are those
-- at the front
pub record IsTaken (tables : Tables) (s : Sending) (taking : Taking) (t : Treated) : Type 0 where
  pub lawful : Lawful (log_of tables s taking false) (taken_mark t)
  pub next : log_next (log_of tables s taking false) (taken_mark t)
      ≡ log_of t.tables t.sending taking false
  pub owed : Owed
  pub owes : t.sending.owes ≡ Some owed
  pub jobs : JobsOf owed t.jobs
  pub front : s.inlet.bytes ≡ t.message ++ t.sending.inlet.bytes
  pub some : 8 ≤ length t.message

abbrev pub TurnIsLawful : Type 0
TurnIsLawful =
    (tables : Tables) (s : Sending) (taking : Taking) (t : Treated)
    → turn tables s ≡ Takes t
    → IsTaken tables s taking t

-- ---- a pipe's item

-- a piece has 1 to 65,536 bytes
abbrev pub IsPiece : PipeItem → Type 0
IsPiece (items.Bytes rid bytes) = (1 ≤ length bytes) × (length bytes ≤ 65536)
IsPiece item = Unit {0}

-- an end that is dropped, and other items that change nothing
abbrev pub IsDropped : LogState → PipeItem → LogState → Type 0
IsDropped s (items.Bytes rid bytes) next = next ≡ s
IsDropped s (items.End rid) next = Lawful s (Dropped rid) × (log_next s (Dropped rid) ≡ next)
IsDropped s (items.Shut number) next = ⊥

pub record PipeTurnIsLawful : Type 0 where
  pub makes : (side : Side) (story : List Mark) (tables : Tables) (s : Sending) (taking : Taking)
      (item : PipeItem) (frame : Frame) (next : Tables)
      → IsStory side story
      → now side story ≡ log_of tables s taking false
      → s.owes ≡ None
      → IsPiece item
      → pipe_turn tables taking item ≡ Makes frame next
      → Lawful (log_of tables s taking false) (Grouped (frame ∷ []) [])
      × (log_next (log_of tables s taking false) (Grouped (frame ∷ []) [])
      ≡ log_of next s taking false)
  pub drops : (tables : Tables) (s : Sending) (taking : Taking) (item : PipeItem) (next : Tables)
      (closed : Bool)
      → pipe_turn tables taking item ≡ Drops next
      → IsDropped (log_of tables s taking closed) item (log_of next s taking closed)
