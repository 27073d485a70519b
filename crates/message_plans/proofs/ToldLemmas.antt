-- What a told size that passes no limit leaves: sizes within the limits, and their sum.
use Rattle.std.proofs.Common.{◌≡◌, ℕ, ◌+◌, ◌-◌, ◌<◌, ◌≤◌, Bool, true, false, max, ℤ, Option, Some, None, unwrap_or, option_map, refl, sym, ap, ◌∙◌, arith, if◌then◌else◌}
use Rattle.std.proofs.lemmas.Bool.{ltb-false, lt-ltb, le-ltb}
use Rattle.std.proofs.lemmas.Cmp.{int_cmp_total}
use Rattle.std.proofs.lemmas.Map.Views.{All-values-insert_entry}
use Rattle.std.specs.Ordering.{int_cmp}
use Rattle.std.specs.Prelude.{nat_lt}
use Rattle.plain_lists.proofs.EntryLemmas.{sorted-insert_entry}
use Rattle.half_model.specs.declared.causes.Limit.{Limit}
use Rattle.half_model.specs.declared.causes.Limit.TheVariants as limits
use Rattle.half_model.specs.Planning.{ByLimit, limit_refusal}
use Rattle.half_model.specs.Shm.{Tell, told_at}
use Rattle.half_model.proofs.Told.{total_put}
use Rattle.mirror_pools.specs.Sizes.{ToldSizes, MOST_FILE, MOST_FILES, total, size_at, with_size, IsSummed}
use Rattle.mirror_pools.proofs.SizeLemmas.{lookup-le-total}
use Rattle.message_plans.specs.Telling.{limit_of, IsWithin}

-- ---- limits

abbrev picked : (a b : Bool) → Option Limit
picked a b = if a then Some limits.File else if b then Some limits.Files else None

pub file_limit : (rid : ℤ) (size : ℕ) (told : ToldSizes) → MOST_FILE < max (told_at rid told) size → Some limits.File ≡ limit_of rid size told
file_limit rid size told l =
    sym (ap (λ a. picked a (nat_lt MOST_FILES (total told - told_at rid told + max (told_at rid told) size))) (lt-ltb MOST_FILE (max (told_at rid told) size) l))

pub files_limit : (rid : ℤ) (size : ℕ) (told : ToldSizes) → max (told_at rid told) size ≤ MOST_FILE
    → MOST_FILES < total told - told_at rid told + max (told_at rid told) size → Some limits.Files ≡ limit_of rid size told
files_limit rid size told m l =
    sym (ap (λ a. picked a (nat_lt MOST_FILES (total told - told_at rid told + max (told_at rid told) size))) (le-ltb MOST_FILE (max (told_at rid told) size) m)
    ∙ ap (λ b. picked false b) (lt-ltb MOST_FILES (total told - told_at rid told + max (told_at rid told) size) l))

pub no_limit : (rid : ℤ) (size : ℕ) (told : ToldSizes) → max (told_at rid told) size ≤ MOST_FILE
    → total told - told_at rid told + max (told_at rid told) size ≤ MOST_FILES → None ≡ limit_of rid size told
no_limit rid size told m l =
    sym (ap (λ a. picked a (nat_lt MOST_FILES (total told - told_at rid told + max (told_at rid told) size))) (le-ltb MOST_FILE (max (told_at rid told) size) m)
    ∙ ap (λ b. picked false b) (le-ltb MOST_FILES (total told - told_at rid told + max (told_at rid told) size) l))

none_of_two : (a b : Bool) → picked a b ≡ None → (a ≡ false) × (b ≡ false)
none_of_two true b none = absurd (let never : ⊥ = cc in never)
none_of_two false true none = absurd (let never : ⊥ = cc in never)
none_of_two false false none = (refl, refl)

pub is_within : (rid : ℤ) (size : ℕ) (told : ToldSizes) → None ≡ limit_of rid size told → IsWithin rid size told
is_within rid size told none =
    let greatest = max (told_at rid told) size in
    let both = none_of_two (nat_lt MOST_FILE greatest) (nat_lt MOST_FILES (total told - told_at rid told + greatest)) (sym none) in
    let file = ltb-false MOST_FILE greatest both.0 in
    let files = ltb-false MOST_FILES (total told - told_at rid told + greatest) both.1 in
    record { file = omega (arith, file); files = omega (arith, files) }

mapped : (a b : Bool) → option_map ByLimit (picked a b) ≡ (if a then Some (ByLimit limits.File) else if b then Some (ByLimit limits.Files) else None)
mapped true b = refl
mapped false true = refl
mapped false false = refl

-- the refusal is that of the limit
pub refusal_is : (tell : Tell) (told : ToldSizes) (limit : Option Limit) → limit ≡ limit_of tell.file.rid tell.size told
    → limit_refusal (Some tell) told ≡ option_map ByLimit limit
refusal_is tell told limit is =
    let greatest = max (told_at tell.file.rid told) tell.size in
    sym (ap (option_map ByLimit) is ∙ mapped (nat_lt MOST_FILE greatest) (nat_lt MOST_FILES (total told - told_at tell.file.rid told + greatest)))

-- ---- one more size

pub at_most : (rid : ℤ) (told : ToldSizes) → told_at rid told ≤ total told
at_most rid told = by (size_at rid told) refl
  where
    by : (o : Option ℕ) → size_at rid told ≡ o → unwrap_or (size_at rid told) 0 ≤ total told
    by None e = let z : unwrap_or (size_at rid told) 0 ≡ 0 = ap (λ o. unwrap_or o 0) e in omega (arith, z)
    by (Some n) e = let z : unwrap_or (size_at rid told) 0 ≡ n = ap (λ o. unwrap_or o 0) e in let m = lookup-le-total rid told n e in omega (arith, z, m)

pub put_sum : (rid : ℤ) (size sum : ℕ) (told : ToldSizes) → IsSummed sum told → IsWithin rid size told
    → IsSummed (sum - told_at rid told + size) (with_size rid size told)
put_sum rid size sum told was fits =
    let put = total_put told rid size was.sound.rising in
    let part = at_most rid told in
    record {
      sum_is = omega (arith, put, part, was.sum_is);
      sound = record {
        rising = sorted-insert_entry int_cmp_total told rid size was.sound.rising;
        each = All-values-insert_entry int_cmp rid size (λ n. n ≤ MOST_FILE) told was.sound.each fits.file;
        together = omega (arith, put, part, fits.files);
      };
    }

pub put_done : (rid : ℤ) (size sum at : ℕ) (told new : ToldSizes) → IsSummed sum told → IsWithin rid size told
    → at ≡ told_at rid told → new ≡ with_size rid size told → IsSummed (sum - at + size) new
put_done rid size sum at told new was fits at_is new_is = rw at_is (rw new_is (put_sum rid size sum told was fits))
