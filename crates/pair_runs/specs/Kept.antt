-- What the records of both sides keep in each state of a run; this project's own.
use Rattle.std.specs.Prelude.{◌≡◌, ℕ, Bool, true, false, List, [], map, Option, Some, None, Ok}
use Rattle.wp_outside.specs.declared.kinds.Side.{Side}
use Rattle.wp_outside.specs.declared.kinds.Side.TheVariants.{Near, Far}
use Rattle.wl_objects.specs.Entries.{first_objects}
use Rattle.wl_objects.specs.Tracking.{track}
use Rattle.wl_wire.specs.Wire.{first}
use Rattle.half_model.specs.Filling.{parts_of}
use Rattle.half_model.specs.Group.{Owed}
use Rattle.half_model.specs.Story.{order_in}
use Rattle.half_model.specs.StoryLaws.{now}
use Rattle.half_model.specs.Turn.{stands_in}
use Rattle.side_model.specs.declared.fault.ProxyFault.{ProxyFault}
use Rattle.side_model.specs.Records.{Law}
use Rattle.pair_laws.specs.Everything.{GaveAll}
use Rattle.pair_laws.specs.Pairs.{OneSide}
use Rattle.pair_runs.specs.Sides.{SideState, TOKEN, is_free}
use Rattle.pair_runs.specs.States.{State, Fault}

abbrev pub one_side : SideState → Option ProxyFault → OneSide
one_side it fault = record { token = TOKEN; book = it.book; fault = fault }

-- whether a whole message, or a bad size, stands at the front of what waits inside
abbrev pub waits : SideState → Bool
waits it = stands_in (first it.inside.inlet.bytes)

-- how many words each copy has of the message that is owed
abbrev pub owed_words : Option Owed → List ℕ
owed_words None = []
owed_words (Some owed) =
    map (λ part. part.count) (parts_of owed.file owed.segments owed.pieces)

-- A side that has not failed: its records are lawful, it has given all, and waits for the copies of
-- just the message that its records say is owed. It tracks the objects that the whole order of
-- passing leaves. A whole message, or a bad size, waits inside only where it must; and once it was
-- asked to close, none waits and no copy is awaited, CLOSE is made.
pub record GoesOn (side : Side) (it : SideState) : Type 0 where
  pub law : Law side TOKEN it.book None
  pub gave : GaveAll side (one_side it None) law
  pub awaits : it.copies ≡ owed_words (now side law.story).owes
  pub owes : it.copies ≡ [] → (now side law.story).owes ≡ None
  pub tracked : track first_objects (order_in side law.story) ≡ Ok it.inside.objects
  pub treated : waits it ≡ true → is_free it ≡ false
  pub closes : it.inside.asked ≡ true → waits it ≡ false → it.copies ≡ []
      → (now side law.story).closed ≡ true

-- one that has
abbrev pub HasFailed : Side → SideState → ProxyFault → Type 0
HasFailed side it fault = Law side TOKEN it.book (Some fault)

abbrev pub KeptAt : Side → ProxyFault → State → Type 0
KeptAt Near fault s = HasFailed Near s.near fault × GoesOn Far s.far
KeptAt Far fault s = GoesOn Near s.near × HasFailed Far s.far fault

-- both sides, where one may have failed
abbrev pub Kept : Option Fault → State → Type 0
Kept None s = GoesOn Near s.near × GoesOn Far s.far
Kept (Some it) s = KeptAt it.side it.fault s
