-- What a call of a side answers and leaves: of want of memory alone nothing is said; this project's
-- own.
use Rattle.std.specs.Prelude.{◌≡◌, ◌≢◌, Option, Some, None, Result, Ok, Err}
use Rattle.pair_runs.specs.Kept.{HasFailed}
use Rattle.script_sides.specs.Ready.{IsReady}
use Rattle.script_sides.specs.Sided.{SideRun, state_of, is_up}
use Rattle.side_model.specs.declared.fault.ProxyFault.{ProxyFault}
use Rattle.side_model.specs.declared.fault.ProxyFault.TheVariants.{Memory}

-- this holds of the fault that is told, if one is
abbrev pub Answers : {X : Type 0} → Result X ProxyFault → (Option ProxyFault → Type 0) → Type 0
Answers (Ok value) claim = claim None
Answers (Err fault) claim = fault ≢ Memory → claim (Some fault)

-- a side goes on, beside the same peer and with the same connection
pub record Stays (old new : SideRun) : Type 0 where
  pub ready : IsReady new
  pub side : new.peer.side ≡ old.peer.side
  pub up : is_up new ≡ is_up old

-- it has failed for good
pub record Stops (old new : SideRun) (fault : ProxyFault) : Type 0 where
  pub told : new.trail.fault ≡ Some fault
  pub side : new.peer.side ≡ old.peer.side
  pub failed : HasFailed old.peer.side (state_of new) fault

abbrev pub Leaves : {X : Type 0} → Result X ProxyFault → SideRun → SideRun → Type 0
Leaves (Ok value) old new = Stays old new
Leaves (Err fault) old new = fault ≢ Memory → Stops old new fault
