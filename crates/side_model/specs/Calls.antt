-- What a call of a proxy does: one event from outside, and then the events that are due inside, one
-- after another, up to rest or to a fault; this project's own.
use Rattle.std.specs.Prelude.{◌≡◌, ℕ, nat_lt, if◌then◌else◌, List, [], ◌∷◌, Option, Some, None}
use Rattle.std.specs.Prelude.{Result, Ok, Err, ◌⊎◌}
use Rattle.half_model.specs.declared.causes.Limit.TheVariants.{Connections}
use Rattle.half_model.specs.declared.causes.PeerCause.TheVariants.{PipeUnknown}
use Rattle.half_model.specs.declared.items.PeerIn.{PeerIn}
use Rattle.half_model.specs.declared.items.PeerIn.TheVariants as inputs
use Rattle.half_model.specs.PipeTurn as pipes
use Rattle.half_model.specs.PipeTurn.{PipeTurn, pipe_turn}
use Rattle.side_model.specs.declared.fault.ProxyFault.{ProxyFault}
use Rattle.side_model.specs.declared.fault.ProxyFault.TheVariants as faults
use Rattle.side_model.specs.declared.fault.ProxyFault.TheVariants.{Memory}
use Rattle.side_model.specs.Due.{next}
use Rattle.side_model.specs.Events.{Event, Fed, Up, Next, Do, Halt, Rest}
use Rattle.side_model.specs.State.{Now}
use Rattle.side_model.specs.Steps.{step}

-- each of these events is due where it happens, and they lead from one state to the other
abbrev pub Part : Now → List Event → Now → Type 0
Part s [] t = t ≡ s
Part s (event ∷ events) t = (next s ≡ Do event) × Part (step event s) events t

-- and this is due then
abbrev pub Row : Now → List Event → Now → Next → Type 0
Row s events t due = Part s events t × (next t ≡ due)

-- The proxy has failed with this fault at a state: what is kept stays as it was there.
pub record Halted (fault : ProxyFault) (last new : Now) : Type 0 where
  pub fault_is : new.fault ≡ Some fault
  pub kept : new.kept ≡ last.kept
  pub side : new.side ≡ last.side
  pub token : new.token ≡ last.token

-- The events that were due led to a state where this fault is due; or memory ran out on the way.
pub record Stops (begun : Now) (fault : ProxyFault) (events : List Event) (new : Now) : Type 0 where
  pub last : Now
  pub part : Part begun events last
  pub due : (next last ≡ Halt fault) ⊎ (fault ≡ Memory)
  pub halted : Halted fault last new

-- memory ran out before anything happened
pub record NotBegun (fault : ProxyFault) (events : List Event) (old new : Now) : Type 0 where
  pub memory : fault ≡ Memory
  pub none : events ≡ []
  pub halted : Halted fault old new

abbrev pub Runs : Event → Result Unit ProxyFault → List Event → Now → Now → Type 0
Runs event (Ok done) events old new = Row (step event old) events new Rest
Runs event (Err fault) events old new =
    Stops (step event old) fault events new ⊎ NotBegun fault events old new

-- ---- calls that are refused at once

-- the greatest number of a connection
abbrev pub MOST_CONNECTIONS : ℕ
MOST_CONNECTIONS = 4096

abbrev pub barred_pipe : ℕ → PipeTurn → Option ProxyFault
barred_pipe index pipes.Barred = Some (faults.Peer index PipeUnknown)
barred_pipe index turn = None

abbrev pub barred_item : PeerIn → Now → Option ProxyFault
barred_item (inputs.Pipe item) s =
    barred_pipe s.live.sending.taken (pipe_turn s.live.tables s.live.taking item)
barred_item item s = None

-- the fault of an event that may not be: a connection of too great a number, an item for a pipe
-- that the peer doesn't hold
abbrev pub barred : Event → Now → Option ProxyFault
barred (Up connection) s =
    if nat_lt MOST_CONNECTIONS connection then Some (faults.Limit Connections) else None
barred (Fed item) s = barred_item item s
barred event s = None

-- ---- any call

pub record Refuses (fault : ProxyFault) (result : Result Unit ProxyFault) (events : List Event)
    (old new : Now) : Type 0 where
  pub answers : result ≡ Err fault
  pub none : events ≡ []
  pub halted : Halted fault old new

abbrev pub CallsBarred : Option ProxyFault → Event → Result Unit ProxyFault → List Event → Now → Now
    → Type 0
CallsBarred None event result events old new = Runs event result events old new
CallsBarred (Some fault) event result events old new = Refuses fault result events old new

-- a proxy that has failed answers its fault again, and nothing changes
pub record Again (fault : ProxyFault) (result : Result Unit ProxyFault) (events : List Event)
    (old new : Now) : Type 0 where
  pub answers : result ≡ Err fault
  pub none : events ≡ []
  pub same : new ≡ old

abbrev pub CallsAfter : Option ProxyFault → Event → Result Unit ProxyFault → List Event → Now → Now
    → Type 0
CallsAfter None event result events old new =
    CallsBarred (barred event old) event result events old new
CallsAfter (Some fault) event result events old new = Again fault result events old new

-- What a call with this event answers, which events are due in it, and what it leaves.
abbrev pub Calls : Event → Result Unit ProxyFault → List Event → Now → Now → Type 0
Calls event result events old new = CallsAfter old.fault event result events old new
