-- What a planned message has, by what it does and what is known of shared memory; this project's
-- own.
use Rattle.std.specs.Prelude.{◌≡◌, ℕ, ◌++◌, Option, Some, None, Result, Ok, Err}
use Rattle.wl_objects.specs.Entries.{Tracked}
use Rattle.half_model.specs.declared.causes.HalfFault.{HalfFault}
use Rattle.half_model.specs.declared.causes.HalfFault.TheVariants as faults
use Rattle.half_model.specs.declared.deeds.Deed.{Deed}
use Rattle.half_model.specs.Planning.{Refusal, ByLimit, pipe_opened, sized_by, injected}
use Rattle.half_model.specs.Shm.{ShmState, Passing, told_by, after_tell}
use Rattle.half_model.specs.Showing.{filling_of}
use Rattle.message_plans.specs.declared.planning.Planned.{Planned}

-- nothing is refused, or the answer is the limit; want of memory may come at any time
abbrev pub IsAllowed : Result Planned HalfFault → Option Refusal → Type 0
IsAllowed (Ok it) refusal = refusal ≡ None
IsAllowed (Err (faults.Limit which)) refusal = refusal ≡ Some (ByLimit which)
IsAllowed (Err faults.Memory) refusal = Unit {0}
IsAllowed (Err (faults.Peer index cause)) refusal = ⊥

-- the told sizes with the one that the message says
abbrev pub with_told : ℕ → Deed → Option Passing → ShmState → ShmState
with_told object deed passing shm =
    record shm { told = after_tell (told_by shm object deed passing) shm.told }

-- the frames before the filled blocks, and these blocks
pub record IsPlanned (shm : ShmState) (tracked : Tracked) (object : ℕ) (deed : Deed)
    (passing : Option Passing) (it : Planned) : Type 0 where
  pub before :
      it.before
      ≡ pipe_opened passing
      ++ (sized_by (told_by shm object deed passing) shm.told ++ injected passing)
  pub filling :
      it.filling ≡ filling_of tracked object deed passing (with_told object deed passing shm)
