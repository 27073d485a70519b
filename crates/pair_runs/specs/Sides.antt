-- One side of a run as plain data: its records, what waits inside it, and the copies that it waits
-- for. Messages are Wayland's; proxies, records and copies are this project's own.
use Rattle.std.specs.Prelude.{ℕ, ◌-◌, ◌&&◌, not, if◌then◌else◌, Bool, true, false, List, []}
use Rattle.std.specs.Prelude.{◌∷◌, drop, map, sum, sum_by, Option, Some, None}
use Rattle.wp_outside.specs.declared.kinds.Side.{Side}
use Rattle.wl_objects.specs.Entries.{Tracked, first_objects}
use Rattle.transfer_frames.specs.Grammar.{spelling}
use Rattle.half_model.specs.declared.items.PeerIn.{PeerIn}
use Rattle.half_model.specs.Group.{Owed}
use Rattle.half_model.specs.Inlet.{Inlet, no_inlet, with_item}
use Rattle.half_model.specs.Jobs.{Job, JobState, Waits, IsOut, IsBack, all_back}
use Rattle.pair_model.specs.Lines.{Line, SideRecord}
use Rattle.pair_model.specs.RingState.{RingState}
use Rattle.side_model.specs.Books.{Book, TrailRecord, no_book, with_rows, closed}
use Rattle.side_model.specs.Due.{has_room}
use Rattle.side_model.specs.Places.{no_places, side_of}
use Rattle.side_model.specs.Shows.{is_open, is_empty}
use Rattle.side_model.specs.State.{Now}
use Rattle.side_model.specs.Trails.{TrailState}

-- The token of the session, the text `waypipe-session!`.
unfoldable pub TOKEN : List ℕ
TOKEN =
    119 ∷ 97 ∷ 121 ∷ 112 ∷ 105 ∷ 112 ∷ 101 ∷ 45 ∷ 115 ∷ 101 ∷ 115 ∷ 115 ∷ 105 ∷ 111 ∷ 110 ∷ 33 ∷ []

-- what a side took from its wire and no taken message used, the objects that it tracks, and whether
-- it was asked to close
pub record Inside : Type 0 where
  pub inlet : Inlet
  pub objects : Tracked
  pub asked : Bool

pub record SideState : Type 0 where
  -- its records, with the order of passing
  pub book : Book
  pub inside : Inside
  -- how many words each copy has that is awaited, and how many of them all are loaded
  pub copies : List ℕ
  pub loaded : ℕ

-- at first
abbrev pub no_inside : Inside
no_inside = record { inlet = no_inlet; objects = first_objects; asked = false }

abbrev pub first_side : Side → SideState
first_side side = record { book = no_book side; inside = no_inside; copies = []; loaded = 0 }

-- ---- changes

abbrev pub with_inside : (Inside → Inside) → SideState → SideState
with_inside change it = record it { inside = change it.inside }

abbrev pub with_trail : (TrailRecord → TrailRecord) → SideState → SideState
with_trail change it = record it { book = record it.book { trail = change it.book.trail } }

abbrev pub rows_of : SideState → List Line
rows_of it = it.book.trail.lines.rows

-- its connections changed
abbrev pub on_rows : (List Line → List Line) → SideState → SideState
on_rows change it = with_trail
    (λ trail. record trail { lines = with_rows (change trail.lines.rows) trail.lines }) it

-- with an item from its wire; what is done to a pipe waits for nothing
abbrev pub fed_inside : PeerIn → Inside → Inside
fed_inside item inside = record inside { inlet = with_item item inside.inlet }

abbrev pub fed : PeerIn → SideState → SideState
fed item it = with_inside (fed_inside item) it

-- asked to close
abbrev pub asked : SideState → SideState
asked it = with_inside (λ inside. record inside { asked = true }) it

-- all copies that it waits for are loaded whole
abbrev pub all_loaded : SideState → SideState
all_loaded it = record it { copies = []; loaded = 0 }

-- the words still to be loaded
abbrev pub words_left : SideState → ℕ
words_left it = sum it.copies - it.loaded

-- ---- what its records tell

-- the frames that the other side is not known to have accepted
abbrev pub ring_in : TrailRecord → RingState
ring_in trail = record {
  acknowledged = trail.acknowledged;
  frames = map spelling (drop trail.acknowledged trail.made);
}

-- it may take a message: it waits for no copy, and its ring has room
abbrev pub is_free : SideState → Bool
is_free it = is_empty it.copies && has_room (ring_in it.book.trail)

-- it takes from its wire while it was not asked to close
abbrev pub wants : SideState → Bool
wants it = not it.inside.asked && is_free it

-- the number of its last connection, 0 before the first
abbrev pub last_number : List Line → ℕ
last_number [] = 0
last_number (line ∷ []) = line.connection
last_number (line ∷ next ∷ lines) = last_number (next ∷ lines)

-- its records as the laws of the link read them, where no places are asked for
abbrev pub link_record : SideState → SideRecord
link_record it = side_of it.book.trail no_places None

-- ---- from a proxy

-- the copies that a message waits for, which are not all back
abbrev pub awaited : Option Owed → List Job → List Job
awaited None jobs = []
awaited (Some owed) jobs = if all_back jobs then [] else jobs

-- how many words of a copy are loaded, where so many are of the one that is out
abbrev pub loaded_by : ℕ → ℕ → JobState → ℕ
loaded_by half count (Waits eye) = 0
loaded_by half count IsOut = half
loaded_by half count (IsBack words receipt) = count

abbrev pub loaded_in : ℕ → Job → ℕ
loaded_in half job = loaded_by half job.part.count job.state

abbrev pub words_in : Job → ℕ
words_in job = job.part.count

abbrev pub inside_of : Now → Inside
inside_of s = record {
  inlet = s.live.sending.inlet;
  objects = s.live.tables.objects.tracked;
  asked = not (is_open s.kept.closing);
}

-- a proxy and its records, where so many words are loaded of the copy that is out; bytes that were
-- lent to be written are none of a run
abbrev pub seen : ℕ → Now → Book → SideState
seen half s book =
    let jobs = awaited s.live.sending.owes s.kept.jobs in
    record {
      book = closed book;
      inside = inside_of s;
      copies = map words_in jobs;
      loaded = sum_by (loaded_in half) jobs;
    }

abbrev pub side_seen : ℕ → TrailState → SideState
side_seen half t = seen half t.now t.book
