-- The laws of a row of events of one proxy: it is one row, in one order, and its end is told; this
-- project's own.
use Rattle.std.specs.Prelude.{◌≡◌, ◌≢◌, ℕ, List, [], ◌∷◌, ◌++◌, None, Result, Ok, Err}
use Rattle.std.specs.Prelude.{◌⊎◌}
use Rattle.std.specs.List.{AllByRecursion}
use Rattle.wp_outside.specs.declared.kinds.Side.{Side}
use Rattle.transfer_frames.specs.declared.frame.Frame.{Frame}
use Rattle.side_model.specs.declared.fault.ProxyFault.{ProxyFault}
use Rattle.side_model.specs.declared.fault.ProxyFault.TheVariants.{Memory}
use Rattle.side_model.specs.Calls.{Part, Row, Calls}
use Rattle.side_model.specs.Due.{next}
use Rattle.side_model.specs.Events.{Event, Lent, Up, Down, Went, Gave}
use Rattle.side_model.specs.Events.{Told, Heard, Took, Grouped, Ended, Chose, Next, Do, Halt, Rest}
use Rattle.side_model.specs.Resting.{Calm}
use Rattle.side_model.specs.Sound.{Sound, GroupFits, Admits}
use Rattle.side_model.specs.State.{Now, no_proxy}
use Rattle.side_model.specs.Steps.{step}

-- ---- the numbers

-- they hold at first,
abbrev pub SoundAtFirst : Type 0
SoundAtFirst = (side : Side) (token : List ℕ) → Sound (no_proxy side token)

-- and each event keeps them: one that may come from outside,
abbrev pub SoundOutside : Type 0
SoundOutside = (event : Event) (s : Now) → Sound s → Admits event s → Sound (step event s)

-- and one that is due
abbrev pub SoundInside : Type 0
SoundInside = (event : Event) (s : Now) → Sound s → GroupFits s → next s ≡ Do event
    → Sound (step event s)

-- ---- one row

-- nothing more happens: a fault is due, or nothing
abbrev pub IsEnd : Next → Type 0
IsEnd (Do event) = ⊥
IsEnd (Halt fault) = Unit {0}
IsEnd Rest = Unit {0}

abbrev pub OneRow : Type 0
OneRow = (s t u : Now) (events others : List Event) (due other : Next)
    → Row s events t due → Row s others u other → IsEnd due → IsEnd other
    → (events ≡ others) × (t ≡ u) × (due ≡ other)

-- an answer that is no want of memory
abbrev pub HadMemory : Result Unit ProxyFault → Type 0
HadMemory (Ok done) = Unit {0}
HadMemory (Err fault) = fault ≢ Memory

-- want of memory aside, a call does one thing
pub record SameCall (answer other : Result Unit ProxyFault) (events others : List Event)
    (new last : Now) : Type 0 where
  pub answers : answer ≡ other
  pub events_are : events ≡ others
  pub kept : new.kept ≡ last.kept
  pub fault : new.fault ≡ last.fault

abbrev pub OneCall : Type 0
OneCall = (event : Event) (answer other : Result Unit ProxyFault) (events others : List Event)
    (old new last : Now)
    → old.fault ≡ None
    → Calls event answer events old new → Calls event other others old last
    → HadMemory answer → HadMemory other
    → SameCall answer other events others new last

-- ---- its order

abbrev pub IsHeard : Event → Type 0
IsHeard event = (frame : Frame) × (event ≡ Heard frame)

-- an event of the inside that hears nothing and chooses no front
abbrev pub IsWork : Event → Type 0
IsWork event = (event ≡ Took) ⊎ ((event ≡ Grouped) ⊎ (event ≡ Ended))

-- a front is chosen, or not
abbrev pub AtMostChose : List Event → Type 0
AtMostChose events = (events ≡ []) ⊎ (events ≡ Chose ∷ [])

-- all frames are heard first, and a front is chosen last
pub record InOrder (events : List Event) : Type 0 where
  pub heards : List Event
  pub works : List Event
  pub chose : List Event
  pub events_are : events ≡ heards ++ (works ++ chose)
  pub are_heard : AllByRecursion IsHeard heards
  pub are_work : AllByRecursion IsWork works
  pub chooses : AtMostChose chose

abbrev pub RowInOrder : Type 0
RowInOrder = (s t : Now) (events : List Event) → Sound s
    → ((u : Now) (before : List Event) → Part s before u → GroupFits u)
    → Part s events t → InOrder events

-- ---- after rest

-- a front that is sent on leads to a choice at most,
abbrev pub WentThenChooses : Type 0
WentThenChooses = (s t : Now) (n : ℕ) (events : List Event) → Sound s → Admits (Went n) s
    → next s ≡ Rest
    → Row (step (Went n) s) events t Rest → AtMostChose events

-- and these events to nothing
abbrev pub RestsAfter : Event → Type 0
RestsAfter event = (s : Now) → next s ≡ Rest → next (step event s) ≡ Rest

pub record StillRests : Type 0 where
  pub down : RestsAfter Down
  pub gave : RestsAfter Gave
  pub told : RestsAfter Told
  pub lent : RestsAfter Lent

-- a connection that comes up lends its RESTART
abbrev pub UpRests : Type 0
UpRests = (s : Now) (connection : ℕ) → s.live.here ≡ None → next s ≡ Rest
    → next (step (Up connection) s) ≡ Rest

-- ---- when nothing is due

abbrev pub RestIsCalm : Type 0
RestIsCalm = (s : Now) → Sound s → (next s ≡ Rest → Calm s) × (Calm s → next s ≡ Rest)
