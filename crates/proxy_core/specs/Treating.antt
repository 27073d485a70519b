-- How a proxy takes the messages of its peer and makes their frames; this project's own.
use Rattle.std.specs.Prelude.{◌≡◌, ◌<◌, ◌&&◌, Bool, true, false, length, Option, Some}
use Rattle.std.specs.Prelude.{None, is_some, Result, Ok, Err, ◌⊎◌}
use Rattle.pair_model.specs.Steps.{Here}
use Rattle.side_model.specs.declared.fault.ProxyFault.{ProxyFault}
use Rattle.side_model.specs.declared.fault.ProxyFault.TheVariants.{Memory}
use Rattle.side_model.specs.Calls.{Halted}
use Rattle.side_model.specs.Due.{hear, group, treat, choose}
use Rattle.side_model.specs.Events.{Do, Rest, Chose}
use Rattle.side_model.specs.Shows.{is_empty}
use Rattle.side_model.specs.State.{Now}
use Rattle.side_model.specs.Steps.{step}
use Rattle.pair_model.specs.RingState.{ring_made}
use Rattle.proxy_core.specs.Keeping.{Keeps, MOST_MADE}
use Rattle.proxy_core.specs.Doing.{Goes, Fails}

-- no frame stands to be heard, and no group is due
pub record IsStill (s : Now) : Type 0 where
  pub hears : hear s ≡ Rest
  pub groups : group s ≡ Rest

-- the events that were due led on, and the ring's count of acknowledged frames is as before
pub record GoesOn (old new : Now) : Type 0 where
  pub goes : Goes old new
  pub keeps : Keeps new
  pub still : IsStill new
  pub acknowledged : new.kept.ring.acknowledged ≡ old.kept.ring.acknowledged

-- a message was taken, and its frames are made where no copy is awaited; or there was none to take
abbrev pub Treats : Result Bool ProxyFault → Now → Now → Type 0
Treats (Ok true) old new =
    GoesOn old new × (length new.live.sending.inlet.bytes < length old.live.sending.inlet.bytes)
Treats (Ok false) old new = (treat old ≡ Rest) × (new ≡ old)
Treats (Err fault) old new = Fails fault old new

-- a connection is up on which no front is being sent and the other's RESTART was read
abbrev pub may_choose : Option Here → Bool
may_choose None = false
may_choose (Some here) = is_empty here.front && is_some here.answer

-- the next front is chosen, where one is to be
abbrev pub Chooses : Bool → Now → Now → Type 0
Chooses true old new = (choose old ≡ Do Chose) × (new ≡ step Chose old)
Chooses false old new = (choose old ≡ Rest) × (new ≡ old)

-- a copy was handed back, and the group of its message is made where all are back
pub record MakesGroup (begun new : Now) : Type 0 where
  pub goes : Goes begun new
  pub keeps : Keeps new
  pub groups : group new ≡ Rest
  pub few : ring_made new.kept.ring < MOST_MADE

-- or it failed, before or behind the hand-back
abbrev pub HandsBack : Result Unit ProxyFault → (old begun new : Now) → Type 0
HandsBack (Ok done) old begun new = MakesGroup begun new
HandsBack (Err fault) old begun new =
    Fails fault begun new ⊎ ((fault ≡ Memory) × Halted fault old new)
