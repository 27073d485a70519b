-- What both peers of a run have received, whatever its script says: the first messages that the
-- other one put, each once. Messages are Wayland's; runs are this project's own.
use Rattle.std.specs.Prelude.{◌≡◌, ℕ, List, ◌++◌, Option, Some, None}
use Rattle.std.specs.List.{AllByRecursion}
use Rattle.plain_lists.specs.Fronts.{IsFront}
use Rattle.wp_outside.specs.declared.kinds.Side.{Side}
use Rattle.wp_outside.specs.declared.kinds.Side.TheVariants.{Near, Far}
use Rattle.wl_wire.specs.Wire.{cut, joined, IsMessage}
use Rattle.half_model.specs.declared.items.PeerIn.{PeerIn}
use Rattle.script_lang.specs.Puts.{puts}
use Rattle.script_lang.specs.declared.steps.Step.{Step}
use Rattle.side_model.specs.declared.fault.ProxyFault.{ProxyFault}
use Rattle.pair_laws.specs.Pairs.{IsPair}
use Rattle.pair_laws.specs.Received.{Prefixes, messages, received_by}
use Rattle.pair_runs.specs.Agreeing.{SparesAll}
use Rattle.pair_runs.specs.Kept.{one_side}
use Rattle.pair_runs.specs.RunLaws.{fault_by}
use Rattle.pair_runs.specs.Runs.{Played, End, Runs, bytes_in}
use Rattle.pair_runs.specs.Sides.{SideState}
use Rattle.pair_runs.specs.States.{State, Fault}

-- ---- what was taken

-- Messages that were taken, and behind them what waits, are the bytes that a peer put.
pub record Brings (put : List ℕ) (taken : List (List ℕ)) (waiting : List ℕ) : Type 0 where
  pub whole : AllByRecursion IsMessage taken
  pub bytes : joined taken ++ waiting ≡ put

-- what waits of a peer's bytes, inside its side and on its wire
abbrev pub waiting : SideState → List PeerIn → List ℕ
waiting it wire = it.inside.inlet.bytes ++ bytes_in wire

-- The messages that each side took are the first ones that its peer put.
pub record TakesFirst (steps : List Step) (last : State) : Type 0 where
  pub near : IsFront last.near.book.trail.taken (cut (puts Near steps))
  pub far : IsFront last.far.book.trail.taken (cut (puts Far steps))

abbrev pub RunsTakeFirst : Type 0
RunsTakeFirst = (steps : List Step) (played : List Played) (last : State) (end : End)
    → Runs steps played last end → TakesFirst steps last

-- ---- what was received

-- the fault of a side, where this is the fault that was met
abbrev pub if_side : Side → Side → ProxyFault → Option ProxyFault
if_side Near Near fault = Some fault
if_side Far Far fault = Some fault
if_side side whose fault = None

abbrev pub fault_of : Side → Option Fault → Option ProxyFault
fault_of side None = None
fault_of side (Some it) = if_side side it.side it.fault

-- Both sides of a run as they are where it ends, which are a pair. The compositor has received the
-- first messages that the application put, each once; the application the first that the registry
-- view shows of the far side's order, in which the compositor's are the first that it put.
pub record Receives (steps : List Step) (last : State) (stop : Option Fault) : Type 0 where
  pub pair : IsPair (one_side last.near (fault_of Near stop))
      (one_side last.far (fault_of Far stop))
  pub prefixes : Prefixes (one_side last.near (fault_of Near stop))
      (one_side last.far (fault_of Far stop)) pair
  pub up : IsFront
      (messages (received_by Far (one_side last.far (fault_of Far stop)) pair.other_law))
      (cut (puts Near steps))
  pub events : IsFront last.far.book.trail.taken (cut (puts Far steps))

abbrev pub RunsReceive : Type 0
RunsReceive = (steps : List Step) (played : List Played) (last : State) (end : End)
    → Runs steps played last end → SparesAll played → Receives steps last (fault_by end)
