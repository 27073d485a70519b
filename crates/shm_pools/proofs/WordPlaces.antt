-- Where a word of a file lies. It is found by one comparison a segment: the first segment either has the
-- word, or is passed over, and the word is that much less far in the others.
use Rattle.std.proofs.Common.{◌≡◌, ℕ, suc, ◌+◌, ◌-◌, ◌<◌, ◌≤◌, List, [], ◌∷◌, take, sym, refl, subst, arith, Bool, true, false, cond, Option, Some, None}
use Rattle.std.specs.Prelude.{sum, nat_lt, MatchOption, IfSome}
use native.Mathlib.Decide.{dec_le}
use Rattle.std.proofs.lemmas.Bool.{lt-ltb, le-ltb, ltb-true, ltb-false}
use Rattle.std.proofs.lemmas.List.Sums.{sum_by-cons}
use Rattle.shm_pools.specs.declared.places.WordPlace.{WordPlace}
use Rattle.shm_pools.specs.Files.{segment_of, offset_of, place_in}
use Rattle.shm_pools.specs.Places.{IsPlaceOf}
use Rattle.shm_pools.specs.Laws.{PlaceIsWithin}

pub sum-cons : (size : ℕ) (sizes : List ℕ) → sum (size ∷ sizes) ≡ size + sum sizes
sum-cons size sizes = sum_by-cons (λ (n : ℕ). n) size sizes

-- the word is word o of the segment s
abbrev IsAt : List ℕ → ℕ → ℕ → ℕ → Type 0
IsAt sizes word s o = IsPlaceOf sizes word (record { segment = s; word = o })

first_has : (size : ℕ) (sizes : List ℕ) (word : ℕ) → word < size → IsAt (size ∷ sizes) word 0 word
first_has size sizes word short = record { segment_there = omega arith; word_there = short; behind = omega arith }

first_passed : (size : ℕ) (sizes : List ℕ) (word s o : ℕ) → size ≤ word → IsAt sizes (word - size) s o → IsAt (size ∷ sizes) word (s + 1) o
first_passed size sizes word s o past here =
    let next : suc s ≡ s + 1 = omega arith in
    subst (λ (n : ℕ). IsAt (size ∷ sizes) word n o) next (record {
      segment_there = omega (arith, here.segment_there);
      word_there = here.word_there;
      behind = omega (arith, sum-cons size (take s sizes), here.behind, past);
    })

pub placed : (sizes : List ℕ) (word : ℕ) → word < sum sizes → IsAt sizes word (segment_of sizes word) (offset_of sizes word)
placed [] word lt = absurd (omega arith)
placed (size ∷ sizes) word lt = by (placed sizes (word - size)) (dec_le size word)
  where
    by : (word - size < sum sizes → IsAt sizes (word - size) (segment_of sizes (word - size)) (offset_of sizes (word - size)))
        → Dec (size ≤ word) → IsAt (size ∷ sizes) word (segment_of (size ∷ sizes) word) (offset_of (size ∷ sizes) word)
    by rest (yes past) =
        let chosen : Bool → Type 0 = λ b. IsAt (size ∷ sizes) word (cond b 0 (segment_of sizes (word - size) + 1)) (cond b word (offset_of sizes (word - size))) in
        subst chosen (sym (le-ltb word size past))
        (first_passed size sizes word (segment_of sizes (word - size)) (offset_of sizes (word - size)) past
        (rest (omega (arith, lt, past, sum-cons size sizes))))
    by rest (no short) =
        let within : word < size = omega (arith, short) in
        let chosen : Bool → Type 0 = λ b. IsAt (size ∷ sizes) word (cond b 0 (segment_of sizes (word - size) + 1)) (cond b word (offset_of sizes (word - size))) in
        subst chosen (sym (lt-ltb word size within)) (first_has size sizes word within)

-- what was found is the place
pub place_is_within : PlaceIsWithin
place_is_within sizes word = by (nat_lt word (sum sizes)) refl
  where
    by : (b : Bool) → nat_lt word (sum sizes) ≡ b
        → MatchOption (cond b (Some (record { segment = segment_of sizes word; word = offset_of sizes word })) None)
        (sum sizes ≤ word) (IsPlaceOf sizes word)
    by true is = placed sizes word (ltb-true word (sum sizes) is)
    by false is = ltb-false word (sum sizes) is

pub place_found : (sizes : List ℕ) (word : ℕ) (at : WordPlace) → place_in sizes word ≡ Some at → IsPlaceOf sizes word at
place_found sizes word at found =
    subst (λ (o : Option WordPlace). MatchOption o (sum sizes ≤ word) (IsPlaceOf sizes word)) found (place_is_within sizes word)

-- what holds of a place that may be none
pub if_placed : (sizes : List ℕ) (word : ℕ) (o : Option WordPlace) → o ≡ place_in sizes word → IfSome o (IsPlaceOf sizes word)
if_placed sizes word (Some at) is = place_found sizes word at (sym is)
if_placed sizes word None is = tt
