-- A proxy with its records, what each of its calls records, and where the limit of their weight
-- stops it; this project's own.
use Rattle.std.specs.Prelude.{◌≡◌, ℕ, ◌+◌, ◌<◌, ◌≤◌, List, [], ◌∷◌, ◌++◌, length, Option, Some}
use Rattle.std.specs.Prelude.{None, Result, Ok, Err, ◌⊎◌}
use Rattle.wp_outside.specs.declared.kinds.Side.{Side}
use Rattle.half_model.specs.declared.causes.Limit.TheVariants.{Trail}
use Rattle.half_model.specs.declared.notes.Noted.{Noted}
use Rattle.side_model.specs.declared.fault.ProxyFault.{ProxyFault}
use Rattle.side_model.specs.declared.fault.ProxyFault.TheVariants.{Limit, Memory}
use Rattle.side_model.specs.Books.{Book, MOST_WEIGHT, weight, mark_cost, line_cost, grown, grow_all}
use Rattle.side_model.specs.Books.{with_room, closed, no_book, Fit}
use Rattle.side_model.specs.Calls.{Part, Row, Calls, Stops, barred}
use Rattle.side_model.specs.Due.{next}
use Rattle.side_model.specs.Events.{Event, Went, Rest}
use Rattle.side_model.specs.Follows.{Follows}
use Rattle.side_model.specs.Marks.{mark_of}
use Rattle.side_model.specs.Records.{Law, KeptRing}
use Rattle.side_model.specs.Shows.{front_of}
use Rattle.side_model.specs.Sound.{Sound}
use Rattle.side_model.specs.State.{Now, no_proxy}
use Rattle.side_model.specs.Steps.{step, with_kept}

-- a proxy, its records, and for what the two have failed together
pub record TrailState : Type 0 where
  pub now : Now
  pub book : Book
  pub fault : Option ProxyFault

abbrev pub no_records : Side → List ℕ → TrailState
no_records side token = record { now = no_proxy side token; book = no_book side; fault = None }

abbrev pub with_notes : List Noted → Now → Now
with_notes notes s = with_kept (λ kept. record kept { notes = notes }) s

-- ---- what it keeps

-- while it has not failed, it rests, and its records follow it
pub record RunsOn (t : TrailState) : Type 0 where
  pub follows : Follows t.now t.book
  pub sound : Sound t.now
  pub rests : next t.now ≡ Rest
  pub fault : t.now.fault ≡ None
  pub notes : t.now.kept.notes ≡ []
  pub lent : t.book.trail.lines.room ≤ length (front_of t.now)

pub record Keeps (t : TrailState) : Type 0 where
  pub runs : t.fault ≡ None → RunsOn t
  pub law : Law t.now.side t.now.token t.book t.fault
  pub ring : KeptRing t.book.trail.made t.book.trail.acknowledged t.fault t.now.kept.ring
  pub weighs : weight t.book.trail + t.book.trail.lines.room ≤ MOST_WEIGHT

-- ---- a call that may fail

abbrev pub step_all : List Event → Now → Now
step_all [] s = s
step_all (event ∷ events) s = step_all events (step event s)

-- all is recorded
pub record Whole (event : Event) (events : List Event) (old : Now) (before after : Book)
    : Type 0 where
  pub fit : Fit (event ∷ events) old (closed before)
  pub book : after ≡ grow_all (event ∷ events) old (closed before)

-- it rests again, and all is recorded
pub record Done (event : Event) (old new : TrailState) : Type 0 where
  pub goes_on : new.fault ≡ None
  pub events : List Event
  pub last : Now
  pub calls : Calls event (Ok tt) events old.now last
  pub now : new.now ≡ with_notes [] last
  pub whole : Whole event events old.now old.book new.book

-- The bytes that come, or the line, are too heavy: the proxy isn't called.
pub record TooHeavy (event : Event) (old new : TrailState) : Type 0 where
  pub begins : barred event old.now ≡ None
  pub heavy : MOST_WEIGHT < weight old.book.trail + line_cost event old.now.live.here
  pub now : new.now ≡ old.now
  pub book : new.book ≡ closed old.book

-- What one of the events makes is too heavy: what came before it is recorded.
pub record StopsRecording (event : Event) (old new : TrailState) : Type 0 where
  pub events : List Event
  pub answer : Result Unit ProxyFault
  pub last : Now
  pub calls : Calls event answer events old.now last
  pub rest : List Noted
  pub now : new.now ≡ with_notes rest last
  pub recorded : List Event
  pub heavy_event : Event
  pub more : List Event
  pub row : event ∷ events ≡ recorded ++ heavy_event ∷ more
  pub fit : Fit recorded old.now (closed old.book)
  pub book : new.book ≡ grow_all recorded old.now (closed old.book)
  pub heavy : MOST_WEIGHT < weight new.book.trail
      + mark_cost (mark_of heavy_event (step_all recorded old.now))

-- The proxy has failed, behind events that are all recorded.
pub record Fails (event : Event) (fault : ProxyFault) (old new : TrailState) : Type 0 where
  pub begins : barred event old.now ≡ None
  pub events : List Event
  pub last : Now
  pub stops : Stops (step event old.now) fault events last
  pub now : new.now ≡ with_notes [] last
  pub whole : Whole event events old.now old.book new.book

-- It has failed at once, and nothing is recorded.
pub record FailsAtOnce (event : Event) (fault : ProxyFault) (old new : TrailState) : Type 0 where
  pub because : (barred event old.now ≡ Some fault) ⊎ (fault ≡ Memory)
  pub side : new.now.side ≡ old.now.side
  pub token : new.now.token ≡ old.now.token
  pub kept : new.now.kept ≡ old.now.kept
  pub book : new.book ≡ closed old.book

-- the call began: the event from outside was done, and behind it events that were due
pub record Begun (event : Event) (events : List Event) (old last : Now) : Type 0 where
  pub at : Now
  pub part : Part (step event old) events at
  pub kept : last.kept ≡ at.kept
  pub side : last.side ≡ at.side
  pub token : last.token ≡ at.token

-- Memory for the records ran out: the event from outside is recorded, or nothing is.
pub record LacksMemory (event : Event) (fault : ProxyFault) (old new : TrailState) : Type 0 where
  pub memory : fault ≡ Memory
  pub events : List Event
  pub answer : Result Unit ProxyFault
  pub last : Now
  pub calls : Calls event answer events old.now last
  pub rest : List Noted
  pub now : new.now ≡ with_notes rest last
  pub recorded : List Event
  pub first : (recorded ≡ []) ⊎ ((recorded ≡ event ∷ []) × Begun event events old.now last)
  pub begins : barred event old.now ≡ None
  pub fit : Fit recorded old.now (closed old.book)
  pub book : new.book ≡ grow_all recorded old.now (closed old.book)

abbrev pub LIMIT_TRAIL : ProxyFault
LIMIT_TRAIL = Limit Trail

-- why a call answers a fault that it had not before
pub data FailsSo (event : Event) (fault : ProxyFault) (old new : TrailState) : Type 0 where
  HeavyAtOnce : fault ≡ LIMIT_TRAIL → TooHeavy event old new → FailsSo event fault old new
  HeavyThen : fault ≡ LIMIT_TRAIL → StopsRecording event old new → FailsSo event fault old new
  Failed : Fails event fault old new → FailsSo event fault old new
  FailedAtOnce : FailsAtOnce event fault old new → FailsSo event fault old new
  NoMemory : LacksMemory event fault old new → FailsSo event fault old new

pub record FailsNow (event : Event) (fault : ProxyFault) (old new : TrailState) : Type 0 where
  pub fault_is : new.fault ≡ Some fault
  pub so : FailsSo event fault old new

abbrev pub RunsTrail : Event → Result Unit ProxyFault → TrailState → TrailState → Type 0
RunsTrail event (Ok done) old new = Done event old new
RunsTrail event (Err fault) old new = FailsNow event fault old new

-- one that has failed answers its fault again
pub record FailsAgain (fault : ProxyFault) (result : Result Unit ProxyFault) (old new : TrailState)
    : Type 0 where
  pub answers : result ≡ Err fault
  pub same : new ≡ old

abbrev pub TrailAfter : Option ProxyFault → Event → Result Unit ProxyFault → TrailState → TrailState
    → Type 0
TrailAfter None event result old new = RunsTrail event result old new
TrailAfter (Some fault) event result old new = FailsAgain fault result old new

-- What a call with this event answers, and what it leaves of a proxy with its records.
abbrev pub TrailCalls : Event → Result Unit ProxyFault → TrailState → TrailState → Type 0
TrailCalls event result old new = TrailAfter old.fault event result old new

-- ---- the other calls

-- one event that nothing follows: the connection goes down, an item is given, a copy is lent
abbrev pub trail_step : Event → TrailState → TrailState
trail_step event t =
    record t { now = step event t.now; book = grown event t.now (closed t.book) }

-- bytes of the front are sent, and the next front is chosen
pub record Sends (n : ℕ) (old new : TrailState) : Type 0 where
  pub goes_on : new.fault ≡ None
  pub events : List Event
  pub row : Row (step (Went n) old.now) events new.now Rest
  pub book : new.book ≡ grown (Went n) old.now (closed old.book)

-- room is made for the front, and its bytes are lent; or it is too heavy, or memory runs out
abbrev pub lent_room : TrailState → TrailState
lent_room t = record t {
  book = with_room (length (front_of t.now)) t.book;
}

abbrev pub TooHeavyFront : ProxyFault → TrailState → Type 0
TooHeavyFront fault t =
    (fault ≡ LIMIT_TRAIL) × (MOST_WEIGHT < weight t.book.trail + length (front_of t.now))

pub record NotLent (fault : ProxyFault) (old new : TrailState) : Type 0 where
  pub because : TooHeavyFront fault old ⊎ (fault ≡ Memory)
  pub fault_is : new.fault ≡ Some fault
  pub now : new.now ≡ old.now
  pub book : new.book ≡ closed old.book

abbrev pub RunsLends : Result Unit ProxyFault → TrailState → TrailState → Type 0
RunsLends (Ok done) old new =
    (weight old.book.trail + length (front_of old.now) ≤ MOST_WEIGHT) × (new ≡ lent_room old)
RunsLends (Err fault) old new = NotLent fault old new

abbrev pub LendsAfter : Option ProxyFault → Result Unit ProxyFault → TrailState → TrailState
    → Type 0
LendsAfter None result old new = RunsLends result old new
LendsAfter (Some fault) result old new = FailsAgain fault result old new

abbrev pub Lends : Result Unit ProxyFault → TrailState → TrailState → Type 0
Lends result old new = LendsAfter old.fault result old new
