-- The told sizes of the files that one side passed, by their rids, and when a file may be opened,
-- grow or be filled. A told size is the greatest that wl_shm.create_pool, wl_shm_pool.resize and
-- wl_keyboard.keymap said; rids, frames and limits are this project's own.
use Rattle.std.specs.Prelude.{◌≡◌, ◌≤◌, ℕ, ◌+◌, ◌-◌, ◌*◌, ◌/◌, Bool, nat_lt, ℤ, List, [], ◌∷◌}
use Rattle.std.specs.Prelude.{Option, Some, None, is_some}
use Rattle.std.specs.Ordering.{int_cmp}
use Rattle.std.specs.BTreeMap.{insert_entry, is_at}
use Rattle.std.specs.List.{All}
use Rattle.std.specs.List.Sorted.{IsStrictlySortedBy}
use Rattle.std.specs.Map.{keys_of, lookup, values_of}
use Rattle.transfer_frames.specs.declared.cause.FrameCause.{FrameCause}
use Rattle.transfer_frames.specs.declared.cause.FrameCause.TheVariants.{RidInUse, RidUnknown}
use Rattle.transfer_frames.specs.declared.cause.FrameCause.TheVariants.{ExtendSmaller, FillOutside}
use Rattle.transfer_frames.specs.declared.cause.FrameCause.TheVariants.{FileTooLarge, FilesTooLarge}
use Rattle.transfer_frames.specs.Faults.{first_of}

-- the sizes in bytes, by rising rids
abbrev pub ToldSizes : Type 0
ToldSizes = List (ℤ × ℕ)

-- the greatest size of a file, and of all files of a side together
abbrev pub MOST_FILE : ℕ
MOST_FILE = 67108864

abbrev pub MOST_FILES : ℕ
MOST_FILES = 268435456

abbrev pub size_at : ℤ → ToldSizes → Option ℕ
size_at rid sizes = lookup (is_at (int_cmp rid)) sizes

abbrev pub with_size : ℤ → ℕ → ToldSizes → ToldSizes
with_size rid size sizes = insert_entry int_cmp sizes rid size

abbrev pub total : ToldSizes → ℕ
total [] = 0
total (one ∷ others) = one.1 + total others

-- a size rounded up to whole blocks of 64 bytes
abbrev pub rounded : ℕ → ℕ
rounded size = (size + 63) / 64 * 64

-- the tests of one size, and of its sum with all others
abbrev pub size_tests : ℕ → ℕ → List (Bool × FrameCause)
size_tests size others =
    (nat_lt MOST_FILE size, FileTooLarge) ∷ (nat_lt MOST_FILES (others + size), FilesTooLarge) ∷ []

-- the cause to refuse a new file, by the size that its rid has, if it is open, and by the sum of
-- all sizes
abbrev pub new_cause : Option ℕ → ℕ → ℕ → Option FrameCause
new_cause found size sum = first_of ((is_some found, RidInUse) ∷ size_tests size sum)

abbrev pub open_cause : ℤ → ℕ → ToldSizes → Option FrameCause
open_cause rid size sizes = new_cause (size_at rid sizes) size (total sizes)

-- the cause to refuse another size of a file, by the size that it has and by the sum of all sizes,
-- of which the new one takes the old one's place
abbrev pub grow_cause : Option ℕ → ℕ → ℕ → Option FrameCause
grow_cause None size sum = Some RidUnknown
grow_cause (Some old) size sum =
    first_of ((nat_lt size old, ExtendSmaller) ∷ size_tests size (sum - old))

abbrev pub extend_cause : ℤ → ℕ → ToldSizes → Option FrameCause
extend_cause rid size sizes = grow_cause (size_at rid sizes) size (total sizes)

-- the cause to refuse new bytes of a file, which end here
abbrev pub range_cause : Option ℕ → ℕ → Option FrameCause
range_cause None end = Some RidUnknown
range_cause (Some size) end = first_of ((nat_lt (rounded size) end, FillOutside) ∷ [])

abbrev pub fill_cause : ℤ → ℕ → ToldSizes → Option FrameCause
fill_cause rid end sizes = range_cause (size_at rid sizes) end

-- What holds of every table of sizes, whatever was told: the rids rise, no file is above its limit,
-- nor all of them together above theirs.
pub record IsSound (sizes : ToldSizes) : Type 0 where
  pub rising : IsStrictlySortedBy int_cmp (keys_of sizes)
  pub each : All (λ size. size ≤ MOST_FILE) (values_of sizes)
  pub together : total sizes ≤ MOST_FILES

-- A table of sizes is sound, and this is their sum.
pub record IsSummed (sum : ℕ) (sizes : ToldSizes) : Type 0 where
  pub sum_is : total sizes ≡ sum
  pub sound : IsSound sizes
