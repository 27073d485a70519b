-- The sizes of mirrors behind a step.
use Rattle.std.proofs.Common.{◌≡◌, ℕ, ◌+◌, ◌-◌, ◌≤◌, Bool, true, false, cond, nat_lt, ℤ, List, [], ◌∷◌, Option, Some, None, MutBor, refl, sym, ◌∙◌, ap, subst, arith, int_cmp}
use Rattle.std.proofs.Common.{Ordering, Less, Equal, Greater}
use Rattle.std.proofs.lemmas.Bool.{cond-false, ltb-false}
use Rattle.std.proofs.lemmas.Cmp.{int_cmp_total}
use Rattle.std.specs.BTreeMap.{insert_entry, is_at}
use Rattle.std.specs.List.{AllByRecursion}
use Rattle.std.specs.List.Sorted.{IsStrictlySortedBy}
use Rattle.std.specs.Map.{keys_of, lookup, set_value}
use Rattle.std.specs.Option.{IsSome, option_map, option_copied_mut}
use Rattle.std.specs.Ordering.{is_eq, match_ordering}
use Rattle.transfer_frames.specs.declared.cause.FrameCause.TheVariants.{FillOutside}
use Rattle.transfer_frames.specs.Faults.{first_of}
use Rattle.mirror_pools.specs.Mirrors.{MirrorState, MirrorsState, sizes_of, mirror_at}
use Rattle.mirror_pools.specs.Sizes.{ToldSizes, total, rounded, size_at, with_size, grow_cause, extend_cause, range_cause, fill_cause, IsSummed}
use Rattle.mirror_pools.proofs.SizeLemmas.{lookup-le-total, is_open, grows, IsSummed-grown}

-- ---- an entry that is there

module _ {X : Type 0} where
  -- a key below all others isn't there
  none_below : (es : List (ℤ × X)) (low mid : ℤ) → int_cmp low mid ≡ Less
      → AllByRecursion (λ k. int_cmp mid k ≡ Less) (keys_of es) → lookup (is_at (int_cmp low)) es ≡ None
  none_below [] low mid below all = refl
  none_below (e ∷ es) low mid below all =
      cond-false (is_eq (int_cmp low e.0)) (Some e.1) _ (ap is_eq (int_cmp_total.trans low mid e.0 below all.0))
      ∙ none_below es low mid below all.1

  -- among rising keys, to put a key that is there is to set its value
  pub insert_entry-there : (es : List (ℤ × X)) (key : ℤ) (old new : X)
      → IsStrictlySortedBy int_cmp (keys_of es) → lookup (is_at (int_cmp key)) es ≡ Some old
      → insert_entry int_cmp es key new ≡ set_value (is_at (int_cmp key)) es new
  unfolding IsStrictlySortedBy
  insert_entry-there [] key old new rising found = absurd (let never : ⊥ = cc in never)
  insert_entry-there (e ∷ es) key old new rising found = by (insert_entry-there es key old new rising.1) (int_cmp key e.0) refl found
    where
      by : (lookup (is_at (int_cmp key)) es ≡ Some old → insert_entry int_cmp es key new ≡ set_value (is_at (int_cmp key)) es new)
          → (c : Ordering) → int_cmp key e.0 ≡ c → cond (is_eq c) (Some e.1) (lookup (is_at (int_cmp key)) es) ≡ Some old
          → match_ordering c ((key, new) ∷ e ∷ es) ((e.0, new) ∷ es) (e ∷ insert_entry int_cmp es key new)
          ≡ cond (is_eq c) ((e.0, new) ∷ es) (e ∷ set_value (is_at (int_cmp key)) es new)
      by rest Less is there =
          let none = none_below es key e.0 is rising.0 in absurd (let never : ⊥ = cc in never)
      by rest Equal is there = refl
      by rest Greater is there = ap (λ (more : List (ℤ × X)). e ∷ more) (rest there)

-- ---- the sizes

pub size_at-sizes_of : (rid : ℤ) (mirrors : MirrorsState)
    → size_at rid (sizes_of mirrors) ≡ option_map (λ it. it.size) (mirror_at rid mirrors)
size_at-sizes_of rid [] = refl
size_at-sizes_of rid (one ∷ others) = by (size_at-sizes_of rid others) (is_at (int_cmp rid) one.0)
  where
    by : size_at rid (sizes_of others) ≡ option_map (λ it. it.size) (mirror_at rid others) → (b : Bool)
        → cond b (Some one.1.size) (size_at rid (sizes_of others)) ≡ option_map (λ it. it.size) (cond b (Some one.1) (mirror_at rid others))
    by rest true = refl
    by rest false = rest

pub keys_of-sizes_of : (mirrors : MirrorsState) → keys_of (sizes_of mirrors) ≡ keys_of mirrors
keys_of-sizes_of [] = refl
keys_of-sizes_of (one ∷ others) = ap (λ (keys : List ℤ). one.0 ∷ keys) (keys_of-sizes_of others)

pub sizes_of-insert_entry : (rid : ℤ) (it : MirrorState) (mirrors : MirrorsState)
    → sizes_of (insert_entry int_cmp mirrors rid it) ≡ with_size rid it.size (sizes_of mirrors)
sizes_of-insert_entry rid it [] = refl
sizes_of-insert_entry rid it (one ∷ others) = by (sizes_of-insert_entry rid it others) (int_cmp rid one.0)
  where
    by : sizes_of (insert_entry int_cmp others rid it) ≡ with_size rid it.size (sizes_of others) → (c : Ordering)
        → sizes_of (match_ordering c ((rid, it) ∷ one ∷ others) ((one.0, it) ∷ others) (one ∷ insert_entry int_cmp others rid it))
        ≡ match_ordering c ((rid, it.size) ∷ sizes_of (one ∷ others)) ((one.0, it.size) ∷ sizes_of others) ((one.0, one.1.size) ∷ with_size rid it.size (sizes_of others))
    by rest Less = refl
    by rest Equal = refl
    by rest Greater = ap (λ (more : List (ℤ × ℕ)). (one.0, one.1.size) ∷ more) rest

-- a mirror that takes the place of another
pub sizes_of-set_value : (rid : ℤ) (old new : MirrorState) (mirrors : MirrorsState)
    → IsStrictlySortedBy int_cmp (keys_of mirrors) → mirror_at rid mirrors ≡ Some old
    → sizes_of (set_value (is_at (int_cmp rid)) mirrors new) ≡ with_size rid new.size (sizes_of mirrors)
sizes_of-set_value rid old new mirrors rising found =
    ap sizes_of (sym (insert_entry-there mirrors rid old new rising found)) ∙ sizes_of-insert_entry rid new mirrors

-- one of the same size changes no size
pub sizes_of-set_same : (rid : ℤ) (old new : MirrorState) (mirrors : MirrorsState)
    → mirror_at rid mirrors ≡ Some old → new.size ≡ old.size
    → sizes_of (set_value (is_at (int_cmp rid)) mirrors new) ≡ sizes_of mirrors
sizes_of-set_same rid old new [] found same = refl
sizes_of-set_same rid old new (one ∷ others) found same = by (sizes_of-set_same rid old new others) (is_at (int_cmp rid) one.0) found
  where
    by : (mirror_at rid others ≡ Some old → new.size ≡ old.size → sizes_of (set_value (is_at (int_cmp rid)) others new) ≡ sizes_of others)
        → (b : Bool) → cond b (Some one.1) (mirror_at rid others) ≡ Some old
        → sizes_of (cond b ((one.0, new) ∷ others) (one ∷ set_value (is_at (int_cmp rid)) others new)) ≡ sizes_of (one ∷ others)
    by rest true here =
        let it : one.1.size ≡ old.size = cc in
        ap (λ (size : ℕ). (one.0, size) ∷ sizes_of others) (same ∙ sym it)
    by rest false later = ap (λ (more : List (ℤ × ℕ)). (one.0, one.1.size) ∷ more) (rest later same)

-- ---- a mirror that is there

-- a mirror whose size is known is there
pub there : (rid : ℤ) (mirrors : MirrorsState) (size : ℕ) → size_at rid (sizes_of mirrors) ≡ Some size
    → IsSome (mirror_at rid mirrors)
there rid mirrors size found = by (mirror_at rid mirrors) (sym (size_at-sizes_of rid mirrors) ∙ found)
  where
    by : (o : Option MirrorState) → option_map (λ it. it.size) o ≡ Some size → IsSome o
    by None is = absurd (let never : ⊥ = cc in never)
    by (Some it) is = refl

pub there-grown : (rid : ℤ) (size : ℕ) (mirrors : MirrorsState) → extend_cause rid size (sizes_of mirrors) ≡ None
    → IsSome (mirror_at rid mirrors)
there-grown rid size mirrors passes =
    let old = is_open (size_at rid (sizes_of mirrors)) size (total (sizes_of mirrors)) passes in
    there rid mirrors old.0 old.1

pub there-filled : (rid : ℤ) (end : ℕ) (mirrors : MirrorsState) → fill_cause rid end (sizes_of mirrors) ≡ None
    → IsSome (mirror_at rid mirrors)
there-filled rid end mirrors passes = by (size_at rid (sizes_of mirrors)) refl passes
  where
    by : (o : Option ℕ) → size_at rid (sizes_of mirrors) ≡ o → range_cause o end ≡ None → IsSome (mirror_at rid mirrors)
    by None is fits = absurd (let never : ⊥ = cc in never)
    by (Some size) is fits = there rid mirrors size is

-- what is known of the old mirror where its growth isn't refused
pub record Grows (rid : ℤ) (size sum : ℕ) (mirrors : MirrorsState) (it : MirrorState) : Type 0 where
  pub found : size_at rid (sizes_of mirrors) ≡ Some it.size
  pub passes : grow_cause (Some it.size) size sum ≡ None
  pub smaller : it.size ≤ size
  pub within : it.size ≤ sum

pub Grows-from : (rid : ℤ) (size sum : ℕ) (mirrors : MirrorsState) (it : MirrorState) → IsSummed sum (sizes_of mirrors)
    → extend_cause rid size (sizes_of mirrors) ≡ None → mirror_at rid mirrors ≡ Some it → Grows rid size sum mirrors it
Grows-from rid size sum mirrors it summed passes is =
    let found : size_at rid (sizes_of mirrors) ≡ Some it.size =
    size_at-sizes_of rid mirrors ∙ ap (option_map (λ (m : MirrorState). m.size)) is
    in
    let fits : grow_cause (Some it.size) size sum ≡ None =
    ap (λ (o : Option ℕ). grow_cause o size sum) (sym found)
    ∙ ap (grow_cause (size_at rid (sizes_of mirrors)) size) (sym summed.sum_is) ∙ passes
    in
    record {
      found = found;
      passes = fits;
      smaller = (grows it.size size sum fits).0;
      within = omega (arith, lookup-le-total rid (sizes_of mirrors) it.size found, summed.sum_is);
    }

-- the sums behind the growth of a mirror
pub IsSummed-set : (rid : ℤ) (size sum : ℕ) (mirrors : MirrorsState) (it new : MirrorState)
    → IsSummed sum (sizes_of mirrors) → Grows rid size sum mirrors it → mirror_at rid mirrors ≡ Some it → new.size ≡ size
    → IsSummed (sum - it.size + size) (sizes_of (set_value (is_at (int_cmp rid)) mirrors new))
IsSummed-set rid size sum mirrors it new summed it_grows is new_is =
    let Rises : List ℤ → Type 0 = λ keys. IsStrictlySortedBy int_cmp keys in
    let Sums : ToldSizes → Type 0 = λ all. IsSummed (sum - it.size + size) all in
    let rising : IsStrictlySortedBy int_cmp (keys_of mirrors) = subst Rises (keys_of-sizes_of mirrors) summed.sound.rising in
    let all : sizes_of (set_value (is_at (int_cmp rid)) mirrors new) ≡ with_size rid size (sizes_of mirrors) =
    sizes_of-set_value rid it new mirrors rising is ∙ ap (λ (n : ℕ). with_size rid n (sizes_of mirrors)) new_is
    in
    subst Sums (sym all)
    (IsSummed-grown rid size it.size sum (sizes_of mirrors) summed it_grows.found it_grows.passes)

-- the value of a look-up that lends it is there
pub lent-there : {X : Type 0} (o : Option (MutBor X)) (q : Option X) → option_copied_mut o ≡ q → IsSome q → IsSome o
lent-there {X} None q is some = absurd (let no : IsSome {T = X} None = subst (λ (p : Option X). IsSome p) (sym is) some in let never : ⊥ = cc in never)
lent-there (Some lent) q is some = refl

-- which mirror is lent, and what the table is once it is given back
pub lent-found : (key rid : ℤ) (mirrors : MirrorsState) (o : Option (MutBor MirrorState)) (lent : MutBor MirrorState)
    → key ≡ rid → option_copied_mut o ≡ mirror_at key mirrors → o ≡ Some lent → mirror_at rid mirrors ≡ Some lent.now
lent-found key rid mirrors o lent is found some =
    sym (ap (λ (k : ℤ). mirror_at k mirrors) is) ∙ sym found ∙ ap option_copied_mut some

pub given-back : (key rid : ℤ) (mirrors after : MirrorsState) (new : MirrorState)
    → key ≡ rid → after ≡ set_value (is_at (int_cmp key)) mirrors new → after ≡ set_value (is_at (int_cmp rid)) mirrors new
given-back key rid mirrors after new is set = set ∙ ap (λ (k : ℤ). set_value (is_at (int_cmp k)) mirrors new) is

-- a fill that isn't refused ends inside its mirror
pub fits-filled : (rid : ℤ) (end : ℕ) (mirrors : MirrorsState) (it : MirrorState)
    → fill_cause rid end (sizes_of mirrors) ≡ None → mirror_at rid mirrors ≡ Some it → end ≤ rounded it.size
fits-filled rid end mirrors it passes is =
    by (nat_lt (rounded it.size) end) refl (ap (λ (o : Option ℕ). range_cause o end) (sym found) ∙ passes)
  where
    found : size_at rid (sizes_of mirrors) ≡ Some it.size
    found = size_at-sizes_of rid mirrors ∙ ap (option_map (λ (m : MirrorState). m.size)) is

    by : (b : Bool) → nat_lt (rounded it.size) end ≡ b → first_of ((b, FillOutside) ∷ []) ≡ None → end ≤ rounded it.size
    by true is fits = absurd (let never : ⊥ = cc in never)
    by false is fits = ltb-false (rounded it.size) end is
