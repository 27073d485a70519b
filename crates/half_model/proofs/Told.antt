-- The told sizes behind a message that says one: they rise by rid, keep to the limits, and have the rids that they had and the message's own.
use Rattle.std.proofs.Common.{◌≡◌, ℕ, ◌+◌, ◌<◌, ◌≤◌, Bool, true, false, ◌||◌, cond, max, List, [], ◌∷◌, ℤ, Option, Some, None, unwrap_or, option_map, ◌⊎◌, inl, inr, ⊎_elim, refl, sym, ap, ◌∙◌, arith}
use Rattle.std.proofs.Common.{Ordering, Less, Equal, Greater}
use Rattle.std.proofs.Math.Dec.{ltb}
use Rattle.std.proofs.lemmas.Bool.{cond_both, ltb-true, ltb-false, or_cases}
use Rattle.std.proofs.lemmas.Cmp.{int_cmp_total}
use Rattle.std.proofs.lemmas.List.Sums.{sum_by-cons}
use Rattle.std.proofs.lemmas.Map.Entries.{sum_by-insert_entry}
use Rattle.std.proofs.lemmas.Map.Lookups.{exact_signed}
use Rattle.std.specs.BTreeMap.{insert_entry}
use Rattle.std.specs.List.{AllByRecursion, sum_by}
use Rattle.std.specs.List.Sorted.{IsStrictlySortedBy}
use Rattle.std.specs.Map.{keys_of, values_of}
use Rattle.std.specs.Ordering.{int_cmp, match_ordering}
use Rattle.half_model.specs.Planning.{Refusal, sum_with, limit_refusal}
use Rattle.half_model.specs.Shm.{Tell, told_at, grows, after_tell}
use Rattle.mirror_pools.specs.Sizes.{ToldSizes, MOST_FILE, MOST_FILES, size_at, with_size, total}
use Rattle.half_model.proofs.Maps.{lookup_put, rising_put, put_cases}

-- a size was told of a rid
abbrev pub Told : ToldSizes → ℤ → Type 0
Told sizes rid = (size : ℕ) × (size_at rid sizes ≡ Some size)

-- the sizes rise by rid and keep to the limits
pub record AreSizes (sizes : ToldSizes) : Type 0 where
  pub rising : IsStrictlySortedBy int_cmp (keys_of sizes)
  pub each : AllByRecursion (λ one. one.1 ≤ MOST_FILE) sizes
  pub sum : total sizes ≤ MOST_FILES

-- ---- sums

pub total-is : (sizes : ToldSizes) → total sizes ≡ sum_by (λ x. x) (values_of sizes)
total-is [] = refl
total-is (one ∷ others) = ap (λ (n : ℕ). one.1 + n) (total-is others) ∙ sym (sum_by-cons (λ x. x) one.1 (values_of others))

as_it_is : (o : Option ℕ) → unwrap_or (option_map (λ x. x) o) 0 ≡ unwrap_or o 0
as_it_is None = refl
as_it_is (Some n) = refl

pub total_put : (sizes : ToldSizes) (rid : ℤ) (size : ℕ) → IsStrictlySortedBy int_cmp (keys_of sizes)
    → total (with_size rid size sizes) + told_at rid sizes ≡ total sizes + size
total_put sizes rid size rising =
    let known = sum_by-insert_entry (λ x. x) int_cmp_total sizes rid size rising in
    let new = total-is (with_size rid size sizes) in
    let old = total-is sizes in
    let at = as_it_is (size_at rid sizes) in
    omega (arith, known, new, old, at)

each_put : {K : Type 0} (cmp : K → K → Ordering) (most : ℕ) (es : List (K × ℕ)) (k : K) (v : ℕ) → AllByRecursion (λ e. e.1 ≤ most) es → v ≤ most
    → AllByRecursion (λ e. e.1 ≤ most) (insert_entry cmp es k v)
each_put cmp most [] k v h l = (l, tt)
each_put {K} cmp most (e ∷ es) k v h l = by (each_put cmp most es k v h.1 l) (cmp k e.0)
  where
    by : AllByRecursion (λ (x : K × ℕ). x.1 ≤ most) (insert_entry cmp es k v) → (c : Ordering)
        → AllByRecursion (λ (x : K × ℕ). x.1 ≤ most) (match_ordering c ((k, v) ∷ e ∷ es) ((e.0, v) ∷ es) (e ∷ insert_entry cmp es k v))
    by rest Less = (l, h)
    by rest Equal = (l, h.1)
    by rest Greater = (h.0, rest)

-- ---- limits

limits_kept : (first second : Bool) (a b : Refusal) → cond first (Some a) (cond second (Some b) None) ≡ None → (first ≡ false) × (second ≡ false)
limits_kept true second a b e = absurd cc
limits_kept false true a b e = absurd cc
limits_kept false false a b e = (refl, refl)

pub within_limits : (tell : Tell) (told : ToldSizes) → limit_refusal (Some tell) told ≡ None
    → (max (told_at tell.file.rid told) tell.size ≤ MOST_FILE) × (sum_with tell told ≤ MOST_FILES)
within_limits tell told e =
    let both = limits_kept (ltb MOST_FILE (max (told_at tell.file.rid told) tell.size)) (ltb MOST_FILES (sum_with tell told)) _ _ e in
    (ltb-false _ _ both.0, ltb-false _ _ both.1)

-- ---- one more size

-- a rid that a message names for the first time was told no size before
abbrev pub IsFresh : Tell → ToldSizes → Type 0
IsFresh tell told = tell.is_new ≡ true → size_at tell.file.rid told ≡ None

pub are_sizes : (tell : Option Tell) (told : ToldSizes) → AreSizes told → limit_refusal tell told ≡ None
    → ((it : Tell) → tell ≡ Some it → IsFresh it told) → AreSizes (after_tell tell told)
are_sizes None told h e fresh = h
are_sizes (Some tell) told h e fresh =
    let limits = within_limits tell told e in
    cond_both (grows tell told) (with_size tell.file.rid tell.size told) told AreSizes
    (λ more.
    let put = total_put told tell.file.rid tell.size h.rising in
    let small : tell.size ≤ MOST_FILE = omega (arith, limits.0) in
    let few : total (with_size tell.file.rid tell.size told) ≤ MOST_FILES =
    ⊎_elim
    (λ new. let none : told_at tell.file.rid told ≡ 0 = ap (λ (o : Option ℕ). unwrap_or o 0) (fresh tell refl new) in omega (arith, put, none, limits.1))
    (λ greater. let l : told_at tell.file.rid told < tell.size = ltb-true _ _ greater in omega (arith, put, l, limits.1))
    (or_cases tell.is_new (ltb (told_at tell.file.rid told) tell.size) more) in
    record {
      rising = rising_put int_cmp_total exact_signed told tell.file.rid tell.size h.rising;
      each = each_put int_cmp MOST_FILE told tell.file.rid tell.size h.each small;
      sum = few;
    })
    (λ no. h)

-- ---- which rids are told

pub told_stays : (tell : Option Tell) (told : ToldSizes) (rid : ℤ) → Told told rid → Told (after_tell tell told) rid
told_stays None told rid h = h
told_stays (Some tell) told rid h =
    cond_both (grows tell told) (with_size tell.file.rid tell.size told) told (λ sizes. Told sizes rid)
    (λ more. ⊎_elim (λ at. (tell.size, at.1)) (λ same. (h.0, same ∙ h.1)) (put_cases int_cmp_total exact_signed told tell.file.rid rid tell.size))
    (λ no. h)

pub told_new : (tell : Tell) (told : ToldSizes) → tell.is_new ≡ true → Told (after_tell (Some tell) told) tell.file.rid
told_new tell told new =
    cond_both (grows tell told) (with_size tell.file.rid tell.size told) told (λ sizes. Told sizes tell.file.rid)
    (λ more. (tell.size, lookup_put int_cmp_total exact_signed told tell.file.rid tell.size))
    (λ no. let e : true ≡ (tell.is_new || ltb (told_at tell.file.rid told) tell.size) = ap (λ (b : Bool). b || ltb (told_at tell.file.rid told) tell.size) (sym new) in absurd (let f : true ≡ false = e ∙ no in cc))

pub told_back : (tell : Tell) (told : ToldSizes) (rid : ℤ) (size : ℕ) → size_at rid (after_tell (Some tell) told) ≡ Some size
    → (rid ≡ tell.file.rid) ⊎ (size_at rid told ≡ Some size)
told_back tell told rid size =
    cond_both (grows tell told) (with_size tell.file.rid tell.size told) told (λ sizes. size_at rid sizes ≡ Some size → (rid ≡ tell.file.rid) ⊎ (size_at rid told ≡ Some size))
    (λ more e. ⊎_elim (λ at. inl at.0) (λ same. inr (sym same ∙ e)) (put_cases int_cmp_total exact_signed told tell.file.rid rid tell.size))
    (λ no e. inr e)
