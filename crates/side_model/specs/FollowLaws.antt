-- The laws of the records of one side: they follow its proxy event by event, and are lawful
-- wherever it stops; this project's own.
use Rattle.std.specs.Prelude.{◌≡◌, ℕ, ◌+◌, ◌≤◌, List, [], ◌++◌, length, Some, None}
use Rattle.std.specs.List.{flat_map}
use Rattle.wp_outside.specs.declared.kinds.Side.{Side}
use Rattle.half_model.specs.declared.items.PeerIn.TheVariants as inputs
use Rattle.side_model.specs.declared.fault.ProxyFault.{ProxyFault}
use Rattle.side_model.specs.declared.fault.ProxyFault.TheVariants as faults
use Rattle.side_model.specs.Books.{Book, TrailRecord, MOST_WEIGHT, weight, cost, grow, grown}
use Rattle.side_model.specs.Books.{no_book}
use Rattle.side_model.specs.Due.{hear, next}
use Rattle.side_model.specs.Events.{Event, Fed, Told, Do, Halt, Rest}
use Rattle.side_model.specs.Follows.{Follows}
use Rattle.side_model.specs.Marks.{mark_of, notes_of}
use Rattle.side_model.specs.Records.{Law}
use Rattle.side_model.specs.Sound.{GroupFits, Admits}
use Rattle.side_model.specs.State.{Now, no_proxy}
use Rattle.side_model.specs.Steps.{step}

-- ---- event by event

abbrev pub FollowsAtFirst : Type 0
FollowsAtFirst = (side : Side) (token : List ℕ) → length token ≡ 16
    → Follows (no_proxy side token) (no_book side)

-- an event that may come from outside, at rest
abbrev pub FollowsOutside : Type 0
FollowsOutside = (event : Event) (s : Now) (book : Book) → Follows s book → next s ≡ Rest
    → Admits event s
    → Follows (step event s) (grown event s book)

-- an event that is due
abbrev pub FollowsInside : Type 0
FollowsInside = (event : Event) (s : Now) (book : Book) → Follows s book → next s ≡ Do event
    → Follows (step event s) (grown event s book)

-- the group that is due then fits the ring
abbrev pub FollowsFits : Type 0
FollowsFits = (s : Now) (book : Book) → Follows s book → GroupFits s

-- ---- wherever it stops

-- a fault that a frame of the other side has no part in, where so many messages were taken
abbrev pub IsOwn : ℕ → ProxyFault → Type 0
IsOwn taken (faults.Frame connection place cause) = ⊥
IsOwn taken (faults.Peer index cause) = index ≡ taken
IsOwn taken (faults.Limit which) = Unit {0}
IsOwn taken faults.Memory = Unit {0}

pub record LawfulStops : Type 0 where
  -- at rest, and where a fault is due
  pub rests : (s : Now) (book : Book) → Follows s book → weight book.trail ≤ MOST_WEIGHT
      → next s ≡ Rest
      → Law s.side s.token book None
  pub halts : (s : Now) (book : Book) (fault : ProxyFault) → Follows s book
      → weight book.trail ≤ MOST_WEIGHT
      → next s ≡ Halt fault → Law s.side s.token book (Some fault)
  -- once all frames that came are heard, at a fault of the peer or at a limit
  pub own : (s : Now) (book : Book) (fault : ProxyFault) → Follows s book
      → weight book.trail ≤ MOST_WEIGHT
      → hear s ≡ Rest → IsOwn (length book.trail.taken) fault
      → Law s.side s.token book (Some fault)
  -- and anywhere, where memory runs out
  pub memory : (s : Now) (book : Book) → Follows s book → weight book.trail ≤ MOST_WEIGHT
      → Law s.side s.token book (Some faults.Memory)

-- ---- weight and notes

-- each event adds what it costs
abbrev pub WeightGrows : Type 0
WeightGrows = (event : Event) (s : Now) (book : Book) → Follows s book
    → weight (grow event s book.trail) ≡ weight book.trail + cost event s

-- what is noted are the notes of the marks
abbrev pub NotesGrow : Type 0
NotesGrow = (event : Event) (s : Now) → (event ≡ Told → ⊥)
    → (step event s).kept.notes ≡ s.kept.notes ++ notes_of (mark_of event s)

-- ---- what it takes

-- the messages that a side took from its peer, and behind them what waits
abbrev pub from_peer : Now → TrailRecord → List ℕ
from_peer s trail = flat_map (λ message. message) trail.taken ++ s.live.sending.inlet.bytes

-- what an event brings of it
abbrev pub put_in : Event → List ℕ
put_in (Fed (inputs.Bytes piece)) = piece
put_in event = []

-- are the bytes that the peer put, in order
abbrev pub TakesInOrder : Type 0
TakesInOrder = (event : Event) (s : Now) (trail : TrailRecord)
    → from_peer (step event s) (grow event s trail) ≡ from_peer s trail ++ put_in event
