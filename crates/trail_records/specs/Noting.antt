-- What a note of a proxy adds to the records of its side, and what that weighs; this project's own.
use Rattle.std.specs.Prelude.{◌≡◌, ℕ, ◌+◌, ◌*◌, ◌<◌, ◌≤◌, List, [], ◌∷◌, ◌++◌, length, replicate}
use Rattle.std.specs.Prelude.{take, sum_by, Result, Ok, Err}
use Rattle.std.specs.List.{AllByRecursion}
use Rattle.wp_outside.specs.declared.kinds.Side.{Side}
use Rattle.wl_tables.specs.declared.way.Way.{Way}
use Rattle.wl_tables.specs.Ways.{own_way}
use Rattle.transfer_frames.specs.Grammar.{IsFrame}
use Rattle.half_model.specs.declared.notes.Noted.{Noted}
use Rattle.half_model.specs.declared.notes.Noted.TheVariants.{Taken, Received, Group}
use Rattle.half_model.specs.Sides.{other_way}
use Rattle.pair_model.specs.Lines.{Line}
use Rattle.pair_model.specs.Steps.{on_last, with_written, with_read}
use Rattle.side_model.specs.Books.{TrailRecord, Book, with_rows, with_room, spelled, weight}
use Rattle.side_model.specs.Books.{MOST_WEIGHT, ITEM_WEIGHT}
use Rattle.trail_records.specs.declared.book.Lengths.{Lengths}
use Rattle.trail_records.specs.declared.trail.TrailRecord as plain
use Rattle.trail_records.specs.declared.unrecorded.Unrecorded.{Unrecorded}
use Rattle.trail_records.specs.declared.unrecorded.Unrecorded.TheVariants.{TooHeavy, Memory}
use Rattle.trail_records.specs.Rows.{new_line}

abbrev pub trail_of : plain.TrailRecord → TrailRecord
trail_of it = record {
  side = it.side;
  taken = it.taken;
  made = it.made;
  copies = it.copies;
  lines = it.lines;
  accepted = it.accepted;
  acknowledged = it.acknowledged;
  given = it.given;
}

-- the weight is counted, and with the room that is lent it is not too great
pub record IsWeighed (counted : ℕ) (trail : TrailRecord) : Type 0 where
  pub exact : counted ≡ weight trail
  pub light : weight trail + trail.lines.room ≤ MOST_WEIGHT

-- ---- notes

-- the frames of a group are in the grammar
abbrev pub IsNote : Noted → Type 0
IsNote (Taken message) = Unit {0}
IsNote (Received messages) = Unit {0}
IsNote (Group frames copies) = AllByRecursion IsFrame frames

abbrev pub noted_trail : Noted → TrailRecord → TrailRecord
noted_trail (Taken message) trail = record trail { taken = trail.taken ++ message ∷ [] }
noted_trail (Received messages) trail = trail
noted_trail (Group frames copies) trail =
    record trail { made = trail.made ++ frames; copies = trail.copies ++ copies }

abbrev pub noted_order : Side → Noted → List Way → List Way
noted_order side (Taken message) order = order ++ own_way side ∷ []
noted_order side (Received messages) order = order ++ replicate messages (other_way side)
noted_order side (Group frames copies) order = order

-- the records behind a note
abbrev pub noted : Noted → Book → Book
noted note book = record {
  trail = noted_trail note book.trail;
  order = noted_order book.trail.side note book.order;
}

-- what it adds to their weight
abbrev pub note_weight : Noted → ℕ
note_weight (Taken message) = length message
note_weight (Received messages) = 0
note_weight (Group frames copies) = sum_by spelled frames + ITEM_WEIGHT * length copies

-- many notes, one after another
abbrev pub noted_all : List Noted → Book → Book
noted_all [] book = book
noted_all (note ∷ notes) book = noted_all notes (noted note book)

-- each of them fits into the weight
abbrev pub NotesFit : List Noted → Book → Type 0
NotesFit [] book = Unit {0}
NotesFit (note ∷ notes) book =
    (weight book.trail + note_weight note ≤ MOST_WEIGHT) × NotesFit notes (noted note book)

-- ---- lines and counts

abbrev pub with_lines : List Line → Book → Book
with_lines rows book =
    record book { trail = record book.trail { lines = with_rows rows book.trail.lines } }

abbrev pub with_line : ℕ → Book → Book
with_line connection book =
    with_lines (book.trail.lines.rows ++ new_line connection ∷ []) book

abbrev pub with_piece : List ℕ → Book → Book
with_piece piece book = with_lines (on_last (with_read piece) book.trail.lines.rows) book

abbrev pub with_sent : List ℕ → Book → Book
with_sent bytes book =
    with_room 0 (with_lines (on_last (with_written bytes) book.trail.lines.rows) book)

abbrev pub with_counts : ℕ → ℕ → Book → Book
with_counts accepted acknowledged book = record book {
  trail = record book.trail { accepted = accepted; acknowledged = acknowledged };
}

abbrev pub with_given : Book → Book
with_given book = record book { trail = record book.trail { given = book.trail.given + 1 } }

-- ---- changes that may be refused

-- The records are changed where the weight that this adds is not too much; else, and where memory
-- runs out, they are as before.
abbrev pub Adds : ℕ → (Book → Book) → Result Unit Unrecorded → Book → Book → Type 0
Adds more change (Ok done) old new =
    (weight old.trail + more ≤ MOST_WEIGHT) × (new ≡ change old)
Adds more change (Err TooHeavy) old new =
    (MOST_WEIGHT < weight old.trail + more) × (new ≡ old)
Adds more change (Err Memory) old new = new ≡ old

-- a weight with more on it, unless that is too much
abbrev pub Weighs : Result ℕ Unrecorded → ℕ → Type 0
Weighs (Ok total) sum = (total ≡ sum) × (sum ≤ MOST_WEIGHT)
Weighs (Err why) sum = (why ≡ TooHeavy) × (MOST_WEIGHT < sum)

-- ---- going back

-- how long the lists of the records are, and what they weigh
pub record AreLengths (lengths : Lengths) (book : Book) : Type 0 where
  pub taken : lengths.taken ≡ length book.trail.taken
  pub made : lengths.made ≡ length book.trail.made
  pub copies : lengths.copies ≡ length book.trail.copies
  pub order : lengths.order ≡ length book.order
  pub weighs : lengths.weight ≡ weight book.trail

-- the records with no more than so much of each list
abbrev pub cut_to : Lengths → Book → Book
cut_to lengths book = record {
  trail = record book.trail {
    taken = take lengths.taken book.trail.taken;
    made = take lengths.made book.trail.made;
    copies = take lengths.copies book.trail.copies;
  };
  order = take lengths.order book.order;
}
