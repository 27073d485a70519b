-- How what a proxy noted in a call comes into its records, and how the call ends then; this
-- project's own.
use Rattle.std.specs.Prelude.{◌≡◌, ℕ, ◌+◌, ◌<◌, List, [], ◌∷◌, ◌++◌, Option, Some, None, Result, Ok}
use Rattle.std.specs.Prelude.{Err}
use Rattle.half_model.specs.declared.items.PeerOut.{PeerOut}
use Rattle.half_model.specs.declared.notes.Noted.{Noted}
use Rattle.side_model.specs.declared.fault.ProxyFault.{ProxyFault}
use Rattle.side_model.specs.declared.fault.ProxyFault.TheVariants as faults
use Rattle.side_model.specs.Books.{Book, MOST_WEIGHT, weight, given_item}
use Rattle.side_model.specs.State.{Now}
use Rattle.side_model.specs.Trails.{with_notes, LIMIT_TRAIL}
use Rattle.trail_records.specs.declared.unrecorded.Unrecorded.{Unrecorded}
use Rattle.trail_records.specs.declared.unrecorded.Unrecorded.TheVariants.{TooHeavy, Memory}
use Rattle.trail_records.specs.Noting.{noted_all, NotesFit, note_weight, with_counts}

-- the counts of frames are those of the proxy
abbrev pub counted : Now → Book → Book
counted s book = with_counts s.kept.accepted s.kept.ring.acknowledged book

-- all that was noted is recorded
pub record NotesAll (old new : Now) (before after : Book) : Type 0 where
  pub now : new ≡ with_notes [] old
  pub fit : NotesFit old.kept.notes before
  pub book : after ≡ counted old (noted_all old.kept.notes before)

-- those before one that is too heavy are
pub record NotesStop (old new : Now) (before after : Book) : Type 0 where
  pub done : List Noted
  pub heavy : Noted
  pub left : List Noted
  pub row : old.kept.notes ≡ done ++ heavy ∷ left
  pub now : new ≡ with_notes left old
  pub fit : NotesFit done before
  pub book : after ≡ counted old (noted_all done before)
  pub too_heavy : MOST_WEIGHT < weight (noted_all done before).trail + note_weight heavy

-- memory ran out at one, and none is
pub record NotesLack (old new : Now) (before after : Book) : Type 0 where
  pub done : List Noted
  pub note : Noted
  pub left : List Noted
  pub row : old.kept.notes ≡ done ++ note ∷ left
  pub now : new ≡ with_notes left old
  pub book : after ≡ before

-- notes were recorded up to one that could not be
pub record NotesUpTo (why : Unrecorded) (old new : Now) (before after : Book) : Type 0 where
  pub done : List Noted
  pub note : Noted
  pub left : List Noted
  pub row : old.kept.notes ≡ done ++ note ∷ left
  pub now : new ≡ with_notes left old
  pub fit : NotesFit done before
  pub book : after ≡ noted_all done before
  pub heavy : why ≡ TooHeavy
      → MOST_WEIGHT < weight (noted_all done before).trail + note_weight note

-- all notes were recorded
pub record NotesDone (old new : Now) (before after : Book) : Type 0 where
  pub now : new ≡ with_notes [] old
  pub fit : NotesFit old.kept.notes before
  pub book : after ≡ noted_all old.kept.notes before

abbrev pub Notes : Result Unit Unrecorded → Now → Now → Book → Book → Type 0
Notes (Ok done) old new before after = NotesDone old new before after
Notes (Err why) old new before after = NotesUpTo why old new before after

abbrev pub Records : Result Unit Unrecorded → Now → Now → Book → Book → Type 0
Records (Ok done) old new before after = NotesAll old new before after
Records (Err TooHeavy) old new before after = NotesStop old new before after
Records (Err Memory) old new before after = NotesLack old new before after

-- ---- how a call ends

abbrev pub reason_of : Unrecorded → ProxyFault
reason_of TooHeavy = LIMIT_TRAIL
reason_of Memory = faults.Memory

-- what could not be recorded goes before what the proxy answers
abbrev pub ended_by : Result Unit ProxyFault → Result Unit Unrecorded → Result Unit ProxyFault
ended_by answer (Ok done) = answer
ended_by answer (Err why) = Err (reason_of why)

abbrev pub fault_in : Result Unit ProxyFault → Option ProxyFault
fault_in (Ok done) = None
fault_in (Err fault) = Some fault

-- a call that a proxy answered ends so
pub record Settles (answer result : Result Unit ProxyFault) (old new : Now) (before after : Book)
    : Type 0 where
  pub recorded : Result Unit Unrecorded
  pub result_is : result ≡ ended_by answer recorded
  pub records : Records recorded old new before after

-- one more item is given
abbrev pub counting : Option PeerOut → Book → Book
counting item book =
    record book { trail = record book.trail { given = given_item item book.trail.given } }
