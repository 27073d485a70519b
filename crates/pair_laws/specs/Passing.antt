-- The order in which messages passed at a side, told by its records alone: the ways of the messages
-- in their order, those that it took, and those of the frames that it accepted. Messages are
-- Wayland's, records are this project's own.
use Rattle.std.specs.Prelude.{◌≡◌, ℕ, Bool, true, false, if◌then◌else◌, List, [], ◌∷◌}
use Rattle.std.specs.Prelude.{Option, Some, None, filter_map}
use Rattle.wp_outside.specs.declared.kinds.Side.{Side}
use Rattle.wp_outside.specs.declared.kinds.Side.TheVariants.{Near, Far}
use Rattle.wl_tables.specs.declared.way.Way.{Way}
use Rattle.wl_tables.specs.declared.way.Way.TheVariants.{Request, Event}
use Rattle.wl_tables.specs.Ways.{own_way}
use Rattle.wl_objects.specs.Registry.{first_state, visible}
use Rattle.half_model.specs.Sides.{other_way}
use Rattle.half_model.specs.Story.{accepted_in, messages_in, order_in}
use Rattle.pair_laws.specs.Pairs.{OneSide, IsLawful}

-- requests come from the near side's own peer, events from the far side's
abbrev pub is_own_way : Side → Way → Bool
is_own_way Near Request = true
is_own_way Near Event = false
is_own_way Far Request = false
is_own_way Far Event = true

abbrev pub next_message : Way → List (List ℕ) → (List (List ℕ) → List (Way × List ℕ))
    → List (Way × List ℕ)
next_message way [] more = more []
next_message way (message ∷ rest) more = (way, message) ∷ more rest

-- these ways in order, each with the next message that was taken, or that was heard
abbrev pub passing : Side → List Way → List (List ℕ) → List (List ℕ) → List (Way × List ℕ)
passing side [] taken heard = []
passing side (way ∷ ways) taken heard =
    if is_own_way side way then next_message way taken (λ rest. passing side ways rest heard)
    else next_message way heard (λ rest. passing side ways taken rest)

abbrev pub passing_by : (side : Side) (it : OneSide) → IsLawful side it → List (Way × List ℕ)
passing_by side it law =
    passing side it.book.order it.book.trail.taken (messages_in (accepted_in law.story))

-- ---- what an order has

-- the messages of one way, in order
abbrev pub if_way : Way → Way × List ℕ → Option (List ℕ)
if_way Request (Request, message) = Some message
if_way Request (Event, message) = None
if_way Event (Request, message) = None
if_way Event (Event, message) = Some message

abbrev pub of_way : Way → List (Way × List ℕ) → List (List ℕ)
of_way way order = filter_map (if_way way) order

-- the messages of an order that the other side is to have
abbrev pub shown_by : Side → List (Way × List ℕ) → List (List ℕ)
shown_by Near order = of_way Request order
shown_by Far order = visible first_state order

-- it is the order of the side's story
abbrev pub OrderIsTold : Type 0
OrderIsTold = (side : Side) (it : OneSide) (law : IsLawful side it)
    → passing_by side it law ≡ order_in side law.story

-- and has the messages that were taken, and those in the frames that were accepted
pub record HasBoth (side : Side) (it : OneSide) (law : IsLawful side it) : Type 0 where
  pub taken : of_way (own_way side) (passing_by side it law) ≡ it.book.trail.taken
  pub heard : of_way (other_way side) (passing_by side it law)
      ≡ messages_in (accepted_in law.story)

abbrev pub OrderHasBoth : Type 0
OrderHasBoth = (side : Side) (it : OneSide) (law : IsLawful side it) → HasBoth side it law
