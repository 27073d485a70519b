-- A plain run of one side, or of both over a link: an event, and then what is due, one event after
-- another; this project's own.
use Rattle.std.specs.Prelude.{ℕ, zero, suc, ◌-◌, min, take, drop, length, List, [], ◌∷◌, ◌++◌}
use Rattle.std.specs.Prelude.{◌≡◌}
use Rattle.wp_outside.specs.declared.kinds.Side.{Side}
use Rattle.wp_outside.specs.declared.kinds.Side.TheVariants.{Near, Far}
use Rattle.side_model.specs.Books.{Book, no_book, grown, grow_all}
use Rattle.side_model.specs.Calls.{Part}
use Rattle.side_model.specs.Due.{next}
use Rattle.side_model.specs.Events.{Event, Up, Down, Came, Went, Next, Do, Halt, Rest}
use Rattle.side_model.specs.Shows.{front_of}
use Rattle.side_model.specs.State.{Now, no_proxy}
use Rattle.side_model.specs.Steps.{step}

-- ---- one side

-- a side, its records, and the events that were due so far
pub record Run : Type 0 where
  pub now : Now
  pub book : Book
  pub due : List Event

abbrev pub begins : Side → List ℕ → Run
begins side token = record { now = no_proxy side token; book = no_book side; due = [] }

-- an event happens
abbrev pub happens : Event → Run → Run
happens event run =
    record run { now = step event run.now; book = grown event run.now run.book }

abbrev pub and_notes : Event → Run → Run
and_notes event run = record run { due = run.due ++ event ∷ [] }

-- the event that is due happens, and so on; or the run stops
abbrev pub goes_on : Next → Run → (Run → Run) → Run
goes_on (Do event) run more = more (and_notes event (happens event run))
goes_on (Halt fault) run more = run
goes_on Rest run more = run

-- so many events at most
abbrev pub settle : ℕ → Run → Run
settle zero run = run
settle (suc most) run = goes_on (next run.now) run (settle most)

-- one call, with at most so many events that are due in it
abbrev pub call : ℕ → Event → Run → Run
call most event run = settle most (happens event run)

abbrev pub calls : ℕ → List Event → Run → Run
calls most [] run = run
calls most (event ∷ events) run = calls most events (call most event run)

-- what a run adds is a part of a row, and its records are those of the events
pub record Settles (from to : Run) : Type 0 where
  pub events : List Event
  pub due : to.due ≡ from.due ++ events
  pub part : Part from.now events to.now
  pub book : to.book ≡ grow_all events from.now from.book

abbrev pub SettlesByPart : Type 0
SettlesByPart = (most : ℕ) (run : Run) → Settles run (settle most run)

-- ---- both sides

-- what one side wrote and the other did not read: up from the near side, down from the far one
pub record Both : Type 0 where
  pub near : Run
  pub far : Run
  pub up : List ℕ
  pub down : List ℕ

abbrev pub begin_both : List ℕ → Both
begin_both token = record { near = begins Near token; far = begins Far token; up = []; down = [] }

-- so many of its bytes go onto the wire, front after front
pub record Sent : Type 0 where
  pub run : Run
  pub bytes : List ℕ

abbrev pub sends_more : List ℕ → ℕ → Sent → (ℕ → Sent → Sent) → Sent
sends_more [] n sent more = sent
sends_more (byte ∷ front) zero sent more = sent
sends_more (byte ∷ front) (suc n) sent more =
    let count : ℕ = min (suc n) (length (byte ∷ front)) in
    more (suc n - count) (record {
      run = call 1 (Went count) sent.run;
      bytes = sent.bytes ++ take count (byte ∷ front);
    })

-- so many fronts at most
abbrev pub sends : ℕ → ℕ → Sent → Sent
sends zero n sent = sent
sends (suc fronts) n sent = sends_more (front_of sent.run.now) n sent (sends fronts)

abbrev pub MOST_FRONTS : ℕ
MOST_FRONTS = 20

abbrev pub MOST_DUE : ℕ
MOST_DUE = 40

abbrev pub send_up : ℕ → Both → Both
send_up n both =
    let sent : Sent = sends MOST_FRONTS n (record { run = both.near; bytes = both.up }) in
    record both { near = sent.run; up = sent.bytes }

abbrev pub send_down : ℕ → Both → Both
send_down n both =
    let sent : Sent = sends MOST_FRONTS n (record { run = both.far; bytes = both.down }) in
    record both { far = sent.run; down = sent.bytes }

abbrev pub recv_up : ℕ → Both → Both
recv_up n both =
    record both {
      far = call MOST_DUE (Came (take n both.up)) both.far;
      up = drop n both.up;
    }

abbrev pub recv_down : ℕ → Both → Both
recv_down n both =
    record both {
      near = call MOST_DUE (Came (take n both.down)) both.near;
      down = drop n both.down;
    }

abbrev pub near_does : List Event → Both → Both
near_does events both = record both { near = calls MOST_DUE events both.near }

abbrev pub far_does : List Event → Both → Both
far_does events both = record both { far = calls MOST_DUE events both.far }

-- a connection comes up, or breaks: what was not read is lost
abbrev pub connect : ℕ → Both → Both
connect number both = near_does (Up number ∷ []) (far_does (Up number ∷ []) both)

abbrev pub break : Both → Both
break both =
    let down : Both = near_does (Down ∷ []) (far_does (Down ∷ []) both) in
    record down { up = []; down = [] }

-- all that can be sent is sent and read, so many times there and back
abbrev pub ALL : ℕ
ALL = 100000

abbrev pub flow : ℕ → Both → Both
flow zero both = both
flow (suc times) both =
    flow times (recv_down ALL (send_down ALL (recv_up ALL (send_up ALL both))))
