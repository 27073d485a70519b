-- What the records of a side keep, how each event makes them grow, and their weight; this project's
-- own.
use Rattle.std.specs.Prelude.{ℕ, ◌+◌, ◌*◌, ◌≤◌, cond, max, min, take, length, map, List, []}
use Rattle.std.specs.Prelude.{◌∷◌, ◌++◌, Option, Some, None, sum_by}
use Rattle.wp_outside.specs.declared.kinds.Side.{Side}
use Rattle.wl_tables.specs.declared.way.Way.{Way}
use Rattle.transfer_frames.specs.declared.frame.Frame.{Frame}
use Rattle.transfer_frames.specs.Grammar.{role, spelling}
use Rattle.half_model.specs.declared.items.PeerOut.{PeerOut}
use Rattle.half_model.specs.declared.items.PeerOut.TheVariants as outputs
use Rattle.half_model.specs.declared.notes.CopyRecord.{CopyRecord}
use Rattle.half_model.specs.Log as marks
use Rattle.half_model.specs.Log.{Mark}
use Rattle.half_model.specs.Sides.{other_way}
use Rattle.wl_tables.specs.Ways.{own_way}
use Rattle.half_model.specs.Story.{messages_of}
use Rattle.pair_model.specs.Lines.{Line}
use Rattle.pair_model.specs.Rows.{is_counted, count_in}
use Rattle.pair_model.specs.Steps.{Here, on_last, with_written, with_read}
use Rattle.side_model.specs.Events.{Event, Up, Came, Went, Gave}
use Rattle.side_model.specs.Marks.{mark_of}
use Rattle.side_model.specs.Shows.{next_item}
use Rattle.side_model.specs.State.{Now, LivePart}
use Rattle.side_model.specs.Steps.{step}

-- the connections, and how many bytes were lent to be written and are not written yet
pub record Lined : Type 0 where
  pub rows : List Line
  pub room : ℕ

-- the record of a side: what it took, made, copied, wrote and read; how many frames it accepted and
-- knows to be accepted; how many messages it gave to its peer
pub record TrailRecord : Type 0 where
  pub side : Side
  pub taken : List (List ℕ)
  pub made : List Frame
  pub copies : List CopyRecord
  pub lines : Lined
  pub accepted : ℕ
  pub acknowledged : ℕ
  pub given : ℕ

-- the record, and which way each message went that its tracking passed, in order
pub record Book : Type 0 where
  pub trail : TrailRecord
  pub order : List Way

abbrev pub no_trail : Side → TrailRecord
no_trail side = record {
  side = side;
  taken = [];
  made = [];
  copies = [];
  lines = record { rows = []; room = 0 };
  accepted = 0;
  acknowledged = 0;
  given = 0;
}

abbrev pub no_book : Side → Book
no_book side = record { trail = no_trail side; order = [] }

-- ---- growing

-- with one more mark
abbrev pub marked_trail : Option Mark → TrailRecord → TrailRecord
marked_trail None trail = trail
marked_trail (Some (marks.Taken message handle segments)) trail =
    record trail { taken = trail.taken ++ message ∷ [] }
marked_trail (Some (marks.Heard frame)) trail = record trail {
  accepted = trail.accepted + cond (is_counted (role frame)) 1 0;
  acknowledged = max trail.acknowledged (count_in (role frame));
}
marked_trail (Some (marks.Grouped frames copies)) trail =
    record trail { made = trail.made ++ frames; copies = trail.copies ++ copies }
marked_trail (Some (marks.Dropped rid)) trail = trail

abbrev pub marked_order : Side → Option Mark → List Way → List Way
marked_order side None order = order
marked_order side (Some (marks.Taken message handle segments)) order = order ++ own_way side ∷ []
marked_order side (Some (marks.Heard frame)) order =
    order ++ map (λ message. other_way side) (messages_of frame)
marked_order side (Some (marks.Grouped frames copies)) order = order
marked_order side (Some (marks.Dropped rid)) order = order

-- the bytes that come and go are those of the connection that is up
abbrev pub rows_read : List ℕ → Option Here → List Line → List Line
rows_read piece None rows = rows
rows_read piece (Some here) rows = on_last (with_read piece) rows

abbrev pub rows_written : ℕ → Option Here → List Line → List Line
rows_written n None rows = rows
rows_written n (Some here) rows = on_last (with_written (take n here.front)) rows

abbrev pub rows_after : Event → Option Here → List Line → List Line
rows_after (Up connection) here rows =
    rows ++ record { connection = connection; written = []; read = [] } ∷ []
rows_after (Came piece) here rows = rows_read piece here rows
rows_after (Went n) here rows = rows_written n here rows
rows_after event here rows = rows

-- one more message is given
abbrev pub given_item : Option PeerOut → ℕ → ℕ
given_item (Some (outputs.Bytes message)) given = given + 1
given_item item given = given

abbrev pub given_after : Event → LivePart → ℕ → ℕ
given_after Gave live given = given_item (next_item live) given
given_after event live given = given

abbrev pub with_rows : List Line → Lined → Lined
with_rows rows lines = record lines { rows = rows }

-- the record behind an event
abbrev pub grow : Event → Now → TrailRecord → TrailRecord
grow event s trail = record (marked_trail (mark_of event s) trail) {
  lines = with_rows (rows_after event s.live.here trail.lines.rows) trail.lines;
  given = given_after event s.live trail.given;
}

abbrev pub grown : Event → Now → Book → Book
grown event s book = record {
  trail = grow event s book.trail;
  order = marked_order s.side (mark_of event s) book.order;
}

abbrev pub grow_all : List Event → Now → Book → Book
grow_all [] s book = book
grow_all (event ∷ events) s book = grow_all events (step event s) (grown event s book)

-- so many bytes of the front are lent
abbrev pub with_room : ℕ → Book → Book
with_room room book =
    record book { trail = record book.trail { lines = record book.trail.lines { room = room } } }

-- nothing that was lent is still to be written
abbrev pub closed : Book → Book
closed book = with_room 0 book

-- ---- weight

abbrev pub MOST_WEIGHT : ℕ
MOST_WEIGHT = 268435456

-- each copy and each connection weighs so much
abbrev pub ITEM_WEIGHT : ℕ
ITEM_WEIGHT = 16

abbrev pub spelled : Frame → ℕ
spelled frame = length (spelling frame)

abbrev pub line_weight : Line → ℕ
line_weight line = length line.written + length line.read

-- the bytes taken, made, written and read, and the other items
unfoldable pub weight : TrailRecord → ℕ
weight trail =
    sum_by length trail.taken + sum_by spelled trail.made + sum_by line_weight trail.lines.rows
    + ITEM_WEIGHT * (length trail.copies + length trail.lines.rows)

-- what a mark adds
abbrev pub mark_cost : Option Mark → ℕ
mark_cost None = 0
mark_cost (Some (marks.Taken message handle segments)) = length message
mark_cost (Some (marks.Heard frame)) = 0
mark_cost (Some (marks.Grouped frames copies)) = sum_by spelled frames + ITEM_WEIGHT * length copies
mark_cost (Some (marks.Dropped rid)) = 0

-- what the lines gain
abbrev pub cost_read : List ℕ → Option Here → ℕ
cost_read piece None = 0
cost_read piece (Some here) = length piece

abbrev pub cost_written : ℕ → Option Here → ℕ
cost_written n None = 0
cost_written n (Some here) = min n (length here.front)

abbrev pub line_cost : Event → Option Here → ℕ
line_cost (Up connection) here = ITEM_WEIGHT
line_cost (Came piece) here = cost_read piece here
line_cost (Went n) here = cost_written n here
line_cost event here = 0

abbrev pub cost : Event → Now → ℕ
cost event s = mark_cost (mark_of event s) + line_cost event s.live.here

-- each of these events fits into the weight, one after another
abbrev pub Fit : List Event → Now → Book → Type 0
Fit [] s book = Unit {0}
Fit (event ∷ events) s book =
    (weight book.trail + cost event s ≤ MOST_WEIGHT)
    × Fit events (step event s) (grown event s book)
