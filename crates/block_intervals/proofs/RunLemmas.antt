-- Lemmas on ascending runs: what their order says of each run, and of the blocks that they have.
use Rattle.std.proofs.Common.{◌≡◌, ℕ, zero, suc, ◌+◌, ◌<◌, ◌≤◌, Bool, true, false, ◌||◌, List, [], ◌∷◌, ◌++◌, length, get_or, refl, sym, ap, ◌∙◌, arith, add-one}
use Rattle.std.specs.List.{All}
use Rattle.std.specs.List.Sorted.{IsNonDecreasingBy}
use Rattle.std.proofs.lemmas.List.Sorted.{IsNonDecreasingBy-from_all_adjacent}
use Rattle.std.proofs.lemmas.Bool.Decides.{nat_tests}
use Rattle.block_intervals.specs.declared.run.Run.{Run}
use Rattle.block_intervals.specs.Sets.{has, lies_within, RisesFrom}

pub or_assoc : (x y z : Bool) → ((x || y) || z) ≡ (x || (y || z))
or_assoc true y z = refl
or_assoc false y z = refl

pub or_comm : (x y : Bool) → (x || y) ≡ (y || x)
or_comm true true = refl
or_comm true false = refl
or_comm false true = refl
or_comm false false = refl

pub has-append : (b : ℕ) (xs ys : List Run) → has b (xs ++ ys) ≡ (has b xs || has b ys)
has-append b [] ys = refl
has-append b (x ∷ xs) ys =
    ap (λ t. lies_within x.first x.end b || t) (has-append b xs ys) ∙ sym (or_assoc (lies_within x.first x.end b) (has b xs) (has b ys))

-- no run is empty
pub rises_each : (low : ℕ) (xs : List Run) → RisesFrom low xs → All (λ r. r.first < r.end) xs
rises_each low [] h k d l = absurd (omega arith)
rises_each low (x ∷ xs) h zero d l = h.1
rises_each low (x ∷ xs) h (suc k) d l = rises_each (x.end + 1) xs h.2 k d (omega arith)

-- each begins at `low` or later
pub rises_firsts : (low : ℕ) (xs : List Run) → RisesFrom low xs → All (λ r. low ≤ r.first) xs
rises_firsts low [] h k d l = absurd (omega arith)
rises_firsts low (x ∷ xs) h zero d l = h.0
rises_firsts low (x ∷ xs) h (suc k) d l =
    let later : x.end + 1 ≤ (get_or xs k d).first = rises_firsts (x.end + 1) xs h.2 k d (omega arith) in
    let here : x.first < x.end = h.1 in
    let from : low ≤ x.first = h.0 in
    omega arith

-- each ends before the next begins
pub rises_next : (low : ℕ) (xs : List Run) → RisesFrom low xs → (k : ℕ) (d : Run) → suc k < length xs → (get_or xs k d).end < (get_or xs (suc k) d).first
rises_next low [] h k d l = absurd (omega arith)
rises_next low (x ∷ []) h k d l = absurd (omega arith)
rises_next low (x ∷ y ∷ ys) h zero d l = let from : x.end + 1 ≤ y.first = h.2.0 in omega arith
rises_next low (x ∷ y ∷ ys) h (suc k) d l = rises_next (x.end + 1) (y ∷ ys) h.2 k d (omega arith)

pub firsts_rise : (low : ℕ) (xs : List Run) → RisesFrom low xs → IsNonDecreasingBy (λ r. r.first) xs
firsts_rise low xs h =
    IsNonDecreasingBy-from_all_adjacent (λ r. r.first) xs
    (λ k d l. let l' : suc k < length xs = omega arith in
    let here : (get_or xs k d).first < (get_or xs k d).end = rises_each low xs h k d (omega arith) in
    let next : (get_or xs k d).end < (get_or xs (suc k) d).first = rises_next low xs h k d l' in
    rw (add-one k) (omega arith))

pub ends_rise : (low : ℕ) (xs : List Run) → RisesFrom low xs → IsNonDecreasingBy (λ r. r.end) xs
ends_rise low xs h =
    IsNonDecreasingBy-from_all_adjacent (λ r. r.end) xs
    (λ k d l. let l' : suc k < length xs = omega arith in
    let there : (get_or xs (suc k) d).first < (get_or xs (suc k) d).end = rises_each low xs h (suc k) d l' in
    let next : (get_or xs k d).end < (get_or xs (suc k) d).first = rises_next low xs h k d l' in
    rw (add-one k) (omega arith))

-- runs that begin at a block or later begin at a lower one or later
pub rises_lower : (high low : ℕ) (xs : List Run) → low ≤ high → RisesFrom high xs → RisesFrom low xs
rises_lower high low [] l h = tt
rises_lower high low (x ∷ xs) l h = let at : high ≤ x.first = h.0 in (omega arith, h.1, h.2)

-- what holds of the runs after a front begins after its last end
pub rises_rest : (low : ℕ) (xs ys : List Run) → RisesFrom low (xs ++ ys) → RisesFrom low ys
rises_rest low [] ys h = h
rises_rest low (x ∷ xs) ys h =
    let rest : RisesFrom (x.end + 1) ys = rises_rest (x.end + 1) xs ys h.2 in
    let here : x.first < x.end = h.1 in
    let from : low ≤ x.first = h.0 in
    rises_lower (x.end + 1) low ys (omega arith) rest

-- rising runs begin later where the first of them does
pub rises_later : (low high : ℕ) (xs : List Run) → RisesFrom low xs → All (λ r. high ≤ r.first) xs → RisesFrom high xs
rises_later low high [] h all = tt
rises_later low high (x ∷ xs) h all = (all 0 x (omega arith), h.1, h.2)

-- a block below them all is in none
pub has_below : (low b : ℕ) (xs : List Run) → RisesFrom low xs → b < low → has b xs ≡ false
has_below low b [] h l = refl
has_below low b (x ∷ xs) h l =
    let here : x.first < x.end = h.1 in
    let from : low ≤ x.first = h.0 in
    let out : lies_within x.first x.end b ≡ false = grind (arith, nat_tests) in
    ap (λ t. t || has b xs) out ∙ has_below (x.end + 1) b xs h.2 (omega arith)

-- nor is one above them all
pub has_above : (b : ℕ) (xs : List Run) → All (λ r. r.end ≤ b) xs → has b xs ≡ false
has_above b [] all = refl
has_above b (x ∷ xs) all =
    let here : x.end ≤ b = all 0 x (omega arith) in
    let out : lies_within x.first x.end b ≡ false = grind (arith, nat_tests) in
    ap (λ t. t || has b xs) out ∙ has_above b xs (λ k d l. all (suc k) d (omega arith))
