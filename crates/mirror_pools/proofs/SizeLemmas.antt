-- The sum of all sizes behind a step.
use Rattle.std.proofs.Common.{◌≡◌, ℕ, ◌+◌, ◌-◌, ◌≤◌, Bool, true, false, nat_lt, ℤ, [], ◌∷◌, Option, Some, None, refl, sym, ◌∙◌, ap, subst, arith, int_cmp}
use Rattle.std.proofs.lemmas.Bool.{ltb-false}
use Rattle.std.proofs.lemmas.Cmp.{int_cmp_total}
use Rattle.std.proofs.lemmas.List.Sums.{sum_by-cons}
use Rattle.std.proofs.lemmas.Map.Entries.{sum_by-insert_entry}
use Rattle.std.proofs.lemmas.Map.Steps.{lookup-le-sum}
use Rattle.std.proofs.lemmas.Map.Views.{All-values-insert_entry}
use Rattle.std.specs.BTreeMap.{is_at}
use Rattle.std.specs.List.{sum, sum_by}
use Rattle.std.specs.List.Sorted.{IsStrictlySortedBy}
use Rattle.std.specs.Map.{keys_of, values_of}
use Rattle.std.specs.Option.{option_map, unwrap_or}
use Rattle.plain_lists.proofs.EntryLemmas.{sorted-insert_entry}
use Rattle.transfer_frames.specs.declared.cause.FrameCause.{FrameCause}
use Rattle.transfer_frames.specs.declared.cause.FrameCause.TheVariants.{ExtendSmaller, FileTooLarge, FilesTooLarge}
use Rattle.transfer_frames.specs.Faults.{first_of}
use Rattle.mirror_pools.specs.Sizes.{ToldSizes, MOST_FILE, MOST_FILES, total, size_at, with_size, size_tests, new_cause, grow_cause, open_cause, extend_cause, IsSound, IsSummed}

total-sum : (sizes : ToldSizes) → total sizes ≡ sum_by (λ n. n) (values_of sizes)
total-sum [] = refl
total-sum (one ∷ others) =
    ap (λ n. one.1 + n) (total-sum others) ∙ sym (sum_by-cons (λ n. n) one.1 (values_of others))

-- what the size was before, 0 where there was none, goes out of the sum and the new one comes in
total-with_size : (rid : ℤ) (size : ℕ) (sizes : ToldSizes) → IsStrictlySortedBy int_cmp (keys_of sizes)
    → total (with_size rid size sizes) + unwrap_or (option_map (λ n. n) (size_at rid sizes)) 0 ≡ total sizes + size
total-with_size rid size sizes rising =
    ap (λ n. n + unwrap_or (option_map (λ n. n) (size_at rid sizes)) 0) (total-sum (with_size rid size sizes))
    ∙ sum_by-insert_entry (λ n. n) int_cmp_total sizes rid size rising
    ∙ ap (λ n. n + size) (sym (total-sum sizes))

pub total-new : (rid : ℤ) (size : ℕ) (sizes : ToldSizes) → IsStrictlySortedBy int_cmp (keys_of sizes)
    → size_at rid sizes ≡ None → total (with_size rid size sizes) ≡ total sizes + size
total-new rid size sizes rising none =
    omega (arith, total-with_size rid size sizes rising, ap (λ found. unwrap_or (option_map (λ n. n) found) 0) none)

pub total-other : (rid : ℤ) (size old : ℕ) (sizes : ToldSizes) → IsStrictlySortedBy int_cmp (keys_of sizes)
    → size_at rid sizes ≡ Some old → total (with_size rid size sizes) + old ≡ total sizes + size
total-other rid size old sizes rising some =
    omega (arith, total-with_size rid size sizes rising, ap (λ found. unwrap_or (option_map (λ n. n) found) 0) some)

-- a size is no more than the sum of all
pub lookup-le-total : (rid : ℤ) (sizes : ToldSizes) (size : ℕ) → size_at rid sizes ≡ Some size → size ≤ total sizes
lookup-le-total rid sizes size found =
    let P : Option ℕ → Type 0 = λ o. unwrap_or o 0 ≤ sum (values_of sizes) in
    omega (arith, total-sum sizes, subst P found (lookup-le-sum (is_at (int_cmp rid)) sizes))

-- ---- what isn't refused

none_of_two : (a b : Bool) (k l : FrameCause) → first_of ((a, k) ∷ (b, l) ∷ []) ≡ None → (a ≡ false) × (b ≡ false)
none_of_two true b k l none = absurd (let never : ⊥ = cc in never)
none_of_two false true k l none = absurd (let never : ⊥ = cc in never)
none_of_two false false k l none = (refl, refl)

-- a size that passes its tests is within the limits
pub size_fits : (size others : ℕ) → first_of (size_tests size others) ≡ None → (size ≤ MOST_FILE) × (others + size ≤ MOST_FILES)
size_fits size others none =
    let both = none_of_two (nat_lt MOST_FILE size) (nat_lt MOST_FILES (others + size)) FileTooLarge FilesTooLarge none in
    (ltb-false MOST_FILE size both.0, ltb-false MOST_FILES (others + size) both.1)

-- a new file passes where its rid isn't open and its size is within the limits
pub opens : (found : Option ℕ) (size sum : ℕ) → new_cause found size sum ≡ None
    → (found ≡ None) × (size ≤ MOST_FILE) × (sum + size ≤ MOST_FILES)
opens None size sum passes = let fits = size_fits size sum passes in (refl, fits.0, fits.1)
opens (Some old) size sum passes = absurd (let never : ⊥ = cc in never)

-- a file that isn't refused to grow is open
pub is_open : (found : Option ℕ) (size sum : ℕ) → grow_cause found size sum ≡ None → (old : ℕ) × (found ≡ Some old)
is_open None size sum passes = absurd (let never : ⊥ = cc in never)
is_open (Some old) size sum passes = (old, refl)

-- its size is no greater than the new one, which is within the limits
pub grows : (old size sum : ℕ) → grow_cause (Some old) size sum ≡ None
    → (old ≤ size) × (size ≤ MOST_FILE) × (sum - old + size ≤ MOST_FILES)
grows old size sum passes = by (nat_lt size old) refl passes
  where
    by : (b : Bool) → nat_lt size old ≡ b → first_of ((b, ExtendSmaller) ∷ size_tests size (sum - old)) ≡ None
        → (old ≤ size) × (size ≤ MOST_FILE) × (sum - old + size ≤ MOST_FILES)
    by true is refused = absurd (let never : ⊥ = cc in never)
    by false is fits = let both = size_fits size (sum - old) fits in (ltb-false size old is, both.0, both.1)

-- ---- the table behind a step

-- one more size that is within its limit
sound-with : (rid : ℤ) (size : ℕ) (sizes : ToldSizes) → IsSound sizes → size ≤ MOST_FILE
    → total (with_size rid size sizes) ≤ MOST_FILES → IsSound (with_size rid size sizes)
sound-with rid size sizes was fits together = record {
  rising = sorted-insert_entry int_cmp_total sizes rid size was.rising;
  each = All-values-insert_entry int_cmp rid size (λ n. n ≤ MOST_FILE) sizes was.each fits;
  together = together;
}

pub IsSound-opened : (rid : ℤ) (size : ℕ) (sizes : ToldSizes) → IsSound sizes
    → open_cause rid size sizes ≡ None → IsSound (with_size rid size sizes)
IsSound-opened rid size sizes was passes =
    let free = opens (size_at rid sizes) size (total sizes) passes in
    sound-with rid size sizes was free.1 (omega (arith, total-new rid size sizes was.rising free.0, free.2))

pub IsSound-grown : (rid : ℤ) (size : ℕ) (sizes : ToldSizes) → IsSound sizes
    → extend_cause rid size sizes ≡ None → IsSound (with_size rid size sizes)
IsSound-grown rid size sizes was passes =
    let old = is_open (size_at rid sizes) size (total sizes) passes in
    let fits = grows old.0 size (total sizes) (ap (λ o. grow_cause o size (total sizes)) (sym old.1) ∙ passes) in
    let sum = total-other rid size old.0 sizes was.rising old.1 in
    let part = lookup-le-total rid sizes old.0 old.1 in
    sound-with rid size sizes was fits.1 (omega (arith, sum, part, fits.2))

pub IsSummed-opened : (rid : ℤ) (size sum : ℕ) (sizes : ToldSizes) → IsSummed sum sizes
    → new_cause (size_at rid sizes) size sum ≡ None → IsSummed (sum + size) (with_size rid size sizes)
IsSummed-opened rid size sum sizes old passes =
    let free = opens (size_at rid sizes) size sum passes in
    record {
      sum_is = total-new rid size sizes old.sound.rising free.0 ∙ ap (λ n. n + size) old.sum_is;
      sound = IsSound-opened rid size sizes old.sound (ap (new_cause (size_at rid sizes) size) old.sum_is ∙ passes);
    }

pub IsSummed-grown : (rid : ℤ) (size old sum : ℕ) (sizes : ToldSizes) → IsSummed sum sizes
    → size_at rid sizes ≡ Some old → grow_cause (Some old) size sum ≡ None
    → IsSummed (sum - old + size) (with_size rid size sizes)
IsSummed-grown rid size old sum sizes was found passes =
    let all = total-other rid size old sizes was.sound.rising found in
    let within = lookup-le-total rid sizes old found in
    let fits : extend_cause rid size sizes ≡ None =
    ap (λ o. grow_cause o size (total sizes)) found ∙ ap (grow_cause (Some old) size) was.sum_is ∙ passes
    in
    record { sum_is = omega (arith, all, within, was.sum_is); sound = IsSound-grown rid size sizes was.sound fits }
