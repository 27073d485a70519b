-- What a part of a call of a proxy does: which of the events that are due it leads through; this
-- project's own.
use Rattle.std.specs.Prelude.{◌≡◌, Bool, true, false, List, Some, None, Result, Ok, Err, ◌⊎◌}
use Rattle.side_model.specs.declared.fault.ProxyFault.{ProxyFault}
use Rattle.half_model.specs.declared.causes.PeerCause.TheVariants.{PipeUnknown}
use Rattle.side_model.specs.declared.fault.ProxyFault.TheVariants as faults
use Rattle.side_model.specs.declared.fault.ProxyFault.TheVariants.{Memory}
use Rattle.side_model.specs.Calls.{Part, Row, Halted, Stops, barred, Calls}
use Rattle.side_model.specs.Events.{Event, Next, Do, Halt, Rest}
use Rattle.side_model.specs.State.{Now}
use Rattle.side_model.specs.Steps.{step}

-- the events that were due led there
abbrev pub Goes : Now → Now → Type 0
Goes s t = (events : List Event) × Part s events t

-- and then nothing is due
abbrev pub Settles : Now → Now → Type 0
Settles s t = (events : List Event) × Row s events t Rest

-- they led to a fault, or memory ran out on the way
abbrev pub Fails : ProxyFault → Now → Now → Type 0
Fails fault s new = (events : List Event) × Stops s fault events new

-- one phase, of which this is due: its event happens, or nothing, or it fails
abbrev pub Did : Result Bool ProxyFault → Next → Now → Now → Type 0
Did (Ok true) due old new = (event : Event) × (due ≡ Do event) × (new ≡ step event old)
Did (Ok false) due old new = (due ≡ Rest) × (new ≡ old)
Did (Err fault) due old new = ((due ≡ Halt fault) ⊎ (fault ≡ Memory)) × Halted fault old new

-- the event from outside happens, where it may be; or it is refused, or memory ran out before
pub record NotBegan (event : Event) (fault : ProxyFault) (old new : Now) : Type 0 where
  pub because : (barred event old ≡ Some fault)
      ⊎ ((barred event old ≡ None) × (fault ≡ Memory))
  pub halted : Halted fault old new

abbrev pub Begins : Result Unit ProxyFault → Event → Now → Now → Type 0
Begins (Ok done) event old new = (barred event old ≡ None) × (new ≡ step event old)
Begins (Err fault) event old new = NotBegan event fault old new

-- a whole call
abbrev pub Does : Event → Result Unit ProxyFault → Now → Now → Type 0
Does event result old new = (events : List Event) × Calls event result events old new

-- the fault of an item that names no pipe whose end the peer holds
abbrev pub pipe_unknown : Now → ProxyFault
pipe_unknown s = faults.Peer s.live.sending.taken PipeUnknown
