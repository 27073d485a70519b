-- In which orders both sides of a run may pass the messages of a script: each keeps the order of
-- each peer's stream of Wayland messages, and a line that moves all that waits parts the messages
-- put before it from those behind it.
use Rattle.std.specs.Prelude.{◌≡◌, ℕ, true, List, ◌∷◌, ◌++◌, length, take}
use Rattle.plain_lists.specs.Fronts.{IsFront}
use Rattle.wl_tables.specs.declared.way.Way.{Way}
use Rattle.wl_tables.specs.declared.way.Way.TheVariants.{Request, Event}
use Rattle.wl_wire.specs.Wire.{cut}
use Rattle.wl_objects.specs.Registry.{first_state, visible}
use Rattle.wp_outside.specs.declared.kinds.Side.TheVariants.{Near, Far}
use Rattle.script_lang.specs.Puts.{before_stop, put_by_all, puts}
use Rattle.script_lang.specs.declared.steps.Step.{Step}
use Rattle.pair_laws.specs.Passing.{of_way, passing_by}
use Rattle.pair_runs.specs.Agreeing.{SparesAll}
use Rattle.pair_runs.specs.Headline.{Receives, fault_of}
use Rattle.pair_runs.specs.Kept.{one_side}
use Rattle.pair_runs.specs.RunLaws.{fault_by}
use Rattle.pair_runs.specs.Runs.{Played, End, Runs, settles}
use Rattle.pair_runs.specs.States.{State}

-- An order in which the first so many requests and events stand before all others.
pub record Parts (requests events : ℕ) (order : List (Way × List ℕ)) : Type 0 where
  pub front : List (Way × List ℕ)
  pub starts : IsFront front order
  pub requests_are : of_way Request front ≡ take requests (of_way Request order)
  pub events_are : of_way Event front ≡ take events (of_way Event order)

-- Of both sides' orders: the near side has as many events as are shown of the far side's first
-- ones.
pub record BothPart (requests events : ℕ) (near far : List (Way × List ℕ)) : Type 0 where
  pub far_parts : Parts requests events far
  pub near_parts : Parts requests (length (visible first_state far_parts.front)) near

-- two orders in which both sides may pass a script's messages, or the first of them
pub record Allowed (steps : List Step) (near far : List (Way × List ℕ)) : Type 0 where
  pub near_requests : IsFront (of_way Request near) (cut (puts Near steps))
  pub far_requests : IsFront (of_way Request far) (of_way Request near)
  pub far_events : IsFront (of_way Event far) (cut (puts Far steps))
  pub near_events : IsFront (of_way Event near) (visible first_state far)
  pub parted : (before after : List Step) (it : Step) → before_stop steps ≡ before ++ it ∷ after
      → settles it.what ≡ true
      → BothPart (length (cut (put_by_all Near before))) (length (cut (put_by_all Far before)))
      near far

-- While no byte of the line is replaced, the orders that both sides keep are allowed ones.
abbrev pub RunsAreAllowed : Type 0
RunsAreAllowed = (steps : List Step) (played : List Played) (last : State) (end : End)
    → Runs steps played last end → SparesAll played
    → (it : Receives steps last (fault_by end))
    × Allowed steps
    (passing_by Near (one_side last.near (fault_of Near (fault_by end))) it.pair.one_law)
    (passing_by Far (one_side last.far (fault_of Far (fault_by end))) it.pair.other_law)
