-- The limits of told sizes, which are this project's own.
use Rattle.std.specs.Prelude.{◌≡◌, ℕ, ◌+◌, ◌-◌, ◌≤◌, max, nat_lt, Bool, false, ℤ, List, [], ◌∷◌, Option, Some, None}
use Rattle.std.specs.Prelude.{Result, Ok, Err, if◌then◌else◌}
use Rattle.transfer_frames.specs.declared.frame.Frame.{Frame}
use Rattle.half_model.specs.declared.causes.HalfFault.{HalfFault}
use Rattle.half_model.specs.declared.causes.HalfFault.TheVariants as faults
use Rattle.half_model.specs.declared.causes.Limit.{Limit}
use Rattle.half_model.specs.declared.causes.Limit.TheVariants as limits
use Rattle.half_model.specs.Planning.{Refusal, ByLimit, size_frame}
use Rattle.half_model.specs.Shm.{Tell, told_at, grows}
use Rattle.mirror_pools.specs.Sizes.{ToldSizes, MOST_FILE, MOST_FILES, total}

-- the limit that a file of this told size would pass, where no greater one was told
abbrev pub limit_of : ℤ → ℕ → ToldSizes → Option Limit
limit_of rid size told =
    if nat_lt MOST_FILE (max (told_at rid told) size) then Some limits.File else
    if nat_lt MOST_FILES (total told - told_at rid told + max (told_at rid told) size)
    then Some limits.Files else None

-- with this told size neither limit is passed
pub record IsWithin (rid : ℤ) (size : ℕ) (told : ToldSizes) : Type 0 where
  pub file : size ≤ MOST_FILE
  pub files : total told - told_at rid told + size ≤ MOST_FILES

-- nothing is refused, or the answer is the limit; want of memory may come at any time
abbrev pub IsWithinLimits : Result Bool HalfFault → Option Refusal → Type 0
IsWithinLimits (Ok grew) refusal = refusal ≡ None
IsWithinLimits (Err (faults.Limit which)) refusal = refusal ≡ Some (ByLimit which)
IsWithinLimits (Err faults.Memory) refusal = Unit {0}
IsWithinLimits (Err (faults.Peer index cause)) refusal = ⊥

-- a told size grows by what a message says, if it says a size
abbrev pub grows_by : Option Tell → ToldSizes → Bool
grows_by None told = false
grows_by (Some tell) told = grows tell told

-- the frame of the size that a message says, where a told size grows by it
abbrev pub sized : Option Tell → Bool → List Frame
sized None grew = []
sized (Some tell) grew = if grew then size_frame tell ∷ [] else []
