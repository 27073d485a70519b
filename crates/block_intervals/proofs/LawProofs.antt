-- The laws of sets of blocks.
--
-- Two rising lists with the same blocks begin with the same block, the least; their first runs end together, since the
-- block after a run is left out; what follows has the same blocks again. The runs of an ascending list of blocks rise
-- and have just its blocks, so they are the runs of any set with the same blocks.
use Rattle.std.proofs.Common.{◌≡◌, ℕ, zero, suc, ◌+◌, ◌-◌, ◌<◌, ◌≤◌, Bool, true, false, ◌&&◌, ◌||◌, List, [], ◌∷◌, ltb, eqb, refl, sym, ap, ◌∙◌, arith, subst, ⊎_elim, ◌⊎◌, inl, inr}
use Rattle.std.specs.List.{filter}
use Rattle.std.proofs.lemmas.Bool.{false≢true, true≢false, cases_lt, cases_eq, cases_order, cond_both, or_cases, or_left, or_right, eqb-true, eqb-false, eq-eqb, ne_eqb}
use Rattle.std.proofs.lemmas.Bool.Decides.{nat_tests}
use Rattle.block_intervals.specs.declared.run.Run.{Run}
use Rattle.block_intervals.specs.Sets.{has, lies_within, RisesFrom, Rises, hull_of, last_end, with_before, runs_of}
use Rattle.block_intervals.specs.Statements.{counted, RunsAreUnique, RunsOfAccepted, IsBetween, HullIsBetween}
use Rattle.block_intervals.proofs.RunLemmas.{has_below, rises_lower, or_assoc}
use Rattle.block_intervals.proofs.SetLemmas.{last_end_above}

lies_in : (first end b : ℕ) → first ≤ b → b < end → lies_within first end b ≡ true
lies_in first end b l h = grind (arith, nat_tests)

lies_out : (first end b : ℕ) → end ≤ b → lies_within first end b ≡ false
lies_out first end b l = grind (arith, nat_tests)

pub lies_is : (first end b : ℕ) → lies_within first end b ≡ true → (first ≤ b) × (b < end)
lies_is first end b h = (grind (arith, nat_tests), grind (arith, nat_tests))

-- a block of the first run is in the set
pub in_first : (x : Run) (xs : List Run) (b : ℕ) → x.first ≤ b → b < x.end → has b (x ∷ xs) ≡ true
in_first x xs b l h = or_left _ _ (lies_in x.first x.end b l h)

-- the block after the first run is not
after_first : (low : ℕ) (x : Run) (xs : List Run) → RisesFrom low (x ∷ xs) → has x.end (x ∷ xs) ≡ false
after_first low x xs h =
    ap (λ t. t || has x.end xs) (lies_out x.first x.end x.end (omega arith)) ∙ has_below (x.end + 1) x.end xs h.2 (omega arith)

-- no block of the set is below the first run
from_first : (low : ℕ) (x : Run) (xs : List Run) (b : ℕ) → RisesFrom low (x ∷ xs) → has b (x ∷ xs) ≡ true → x.first ≤ b
from_first low x xs b h is =
    let from : RisesFrom x.first (x ∷ xs) = (omega arith, h.1, h.2) in
    ⊎_elim (λ l. absurd (false≢true (sym (has_below x.first b (x ∷ xs) from l) ∙ is))) (λ l. l) (cases_lt b x.first)

-- a first run with the same first block ends no later, where its blocks are in the other set
ends_within : (low : ℕ) (x y : Run) (xs ys : List Run) → RisesFrom low (x ∷ xs) → y.first ≤ x.end → ((b : ℕ) → has b (x ∷ xs) ≡ has b (y ∷ ys)) → y.end ≤ x.end
ends_within low x y xs ys h l same =
    ⊎_elim (λ past. absurd (false≢true (sym (after_first low x xs h) ∙ same x.end ∙ in_first y ys x.end l past))) (λ e. e) (cases_lt x.end y.end)

-- what follows the same first run is the same set
rest_same : (low : ℕ) (x y : Run) (xs ys : List Run) → RisesFrom low (x ∷ xs) → RisesFrom low (y ∷ ys) → x.end ≡ y.end → ((b : ℕ) → has b (x ∷ xs) ≡ has b (y ∷ ys)) → (b : ℕ) → has b xs ≡ has b ys
rest_same low x y xs ys hx hy e same b =
    ⊎_elim
    (λ l. has_below (x.end + 1) b xs hx.2 l ∙ sym (has_below (y.end + 1) b ys hy.2 (omega arith)))
    (λ l. ap (λ t. t || has b xs) (sym (lies_out x.first x.end b (omega arith))) ∙ same b ∙ ap (λ t. t || has b ys) (lies_out y.first y.end b (omega arith)))
    (cases_lt b (x.end + 1))

pub unique : (low : ℕ) (xs ys : List Run) → RisesFrom low xs → RisesFrom low ys → ((b : ℕ) → has b xs ≡ has b ys) → xs ≡ ys
unique low [] [] hx hy same = refl
unique low [] (y ∷ ys) hx hy same = absurd (false≢true (same y.first ∙ in_first y ys y.first (omega arith) hy.1))
unique low (x ∷ xs) [] hx hy same = absurd (true≢false (sym (in_first x xs x.first (omega arith) hx.1) ∙ same x.first))
unique low (x ∷ xs) (y ∷ ys) hx hy same =
    let back = λ (b : ℕ). sym (same b) in
    let here : x.first < x.end = hx.1 in
    let there : y.first < y.end = hy.1 in
    let down : y.first ≤ x.first = from_first low y ys x.first hy (back x.first ∙ in_first x xs x.first (omega arith) here) in
    let up : x.first ≤ y.first = from_first low x xs y.first hx (same y.first ∙ in_first y ys y.first (omega arith) there) in
    let firsts : x.first ≡ y.first = omega arith in
    let less : y.end ≤ x.end = ends_within low x y xs ys hx (omega arith) same in
    let more : x.end ≤ y.end = ends_within low y x ys xs hy (omega arith) back in
    let ends : x.end ≡ y.end = omega arith in
    let head : x ≡ y = ap (λ (n : ℕ). record { first = n; end = x.end }) firsts ∙ ap (λ (n : ℕ). record { first = y.first; end = n }) ends in
    let tail : xs ≡ ys = unique (x.end + 1) xs ys hx.2 (subst (λ (n : ℕ). RisesFrom (n + 1) ys) (sym ends) hy.2) (rest_same low x y xs ys hx hy ends same) in
    ap (λ (r : Run). r ∷ xs) head ∙ ap (λ (rs : List Run). y ∷ rs) tail

apart : (m n : ℕ) → m ≤ n → eqb m n ≡ false → m + 1 ≤ n
apart m n l e = let other = eqb-false m n e in ⊎_elim (λ s. absurd (other s)) (λ d. ⊎_elim (λ a. omega arith) (λ a. absurd (omega arith)) d) (cases_order m n)

-- a block put before rising runs
before_rises : (b : ℕ) (rs : List Run) → RisesFrom (b + 1) rs → RisesFrom b (with_before b rs)
before_rises b [] h = (omega arith, omega arith, tt)
before_rises b (r ∷ rs) h =
    let at : b + 1 ≤ r.first = h.0 in
    let some : r.first < r.end = h.1 in
    cond_both (eqb (b + 1) r.first) _ _ (λ xs. RisesFrom b xs)
    (λ e. (omega arith, omega arith, h.2))
    (λ e. (omega arith, omega arith, (apart (b + 1) r.first at e, h.1, h.2)))

one_block : (b c : ℕ) → lies_within b (b + 1) c ≡ eqb c b
one_block b c = grind (arith, nat_tests)

joined_block : (b c first end : ℕ) → b + 1 ≡ first → first < end → lies_within b end c ≡ (eqb c b || lies_within first end c)
joined_block b c first end e some = grind (arith, nat_tests)

before_has : (b : ℕ) (rs : List Run) (c : ℕ) → RisesFrom (b + 1) rs → has c (with_before b rs) ≡ (eqb c b || has c rs)
before_has b [] c h = ap (λ t. t || false) (one_block b c)
before_has b (r ∷ rs) c h =
    let some : r.first < r.end = h.1 in
    cond_both (eqb (b + 1) r.first) _ _ (λ xs. has c xs ≡ (eqb c b || has c (r ∷ rs)))
    (λ e. ap (λ t. t || has c rs) (joined_block b c r.first r.end (eqb-true _ _ e) some) ∙ or_assoc (eqb c b) (lies_within r.first r.end c) (has c rs))
    (λ e. ap (λ t. t || has c (r ∷ rs)) (one_block b c))

pub runs_of-rises : (test : ℕ → Bool) (from n : ℕ) → RisesFrom from (runs_of (filter test (counted from n)))
runs_of-rises test from zero = tt
runs_of-rises test from (suc n) =
    let rest = runs_of-rises test (from + 1) n in
    cond_both (test from) _ _ (λ xs. RisesFrom from (runs_of xs)) (λ e. before_rises from _ rest) (λ e. rises_lower (from + 1) from _ (omega arith) rest)

none_within : (from b : ℕ) → lies_within from (from + 0) b ≡ false
none_within from b = grind (arith, nat_tests)

step_within : (from n b : ℕ) → (b ≡ from → ⊥) → lies_within (from + 1) (from + 1 + n) b ≡ lies_within from (from + suc n) b
step_within from n b s = grind (arith, nat_tests)

not_start : (test : ℕ → Bool) (from n b : ℕ) → (b ≡ from → ⊥) → (lies_within (from + 1) (from + 1 + n) b && test b) ≡ (lies_within from (from + suc n) b && test b)
not_start test from n b s = ap (λ t. t && test b) (step_within from n b s)

not_start_true : (test : ℕ → Bool) (from n b : ℕ) → (b ≡ from → ⊥) → (eqb b from || (lies_within (from + 1) (from + 1 + n) b && test b)) ≡ (lies_within from (from + suc n) b && test b)
not_start_true test from n b s = ap (λ t. t || (lies_within (from + 1) (from + 1 + n) b && test b)) (ne_eqb b from s) ∙ not_start test from n b s

at_start : (test : ℕ → Bool) (from n b : ℕ) → b ≡ from → test from ≡ true → (eqb b from || (lies_within (from + 1) (from + 1 + n) b && test b)) ≡ (lies_within from (from + suc n) b && test b)
at_start test from n b s e =
    ap (λ t. t || (lies_within (from + 1) (from + 1 + n) b && test b)) (eq-eqb b from s)
    ∙ sym (ap (λ t. t && test b) (lies_in from (from + suc n) b (omega arith) (omega arith)) ∙ ap test s ∙ e)

and_false : (x : Bool) → (x && false) ≡ false
and_false true = refl
and_false false = refl

at_start_false : (test : ℕ → Bool) (from n b : ℕ) → b ≡ from → test from ≡ false → (lies_within (from + 1) (from + 1 + n) b && test b) ≡ (lies_within from (from + suc n) b && test b)
at_start_false test from n b s e =
    let off : test b ≡ false = ap test s ∙ e in
    ap (λ t. lies_within (from + 1) (from + 1 + n) b && t) off ∙ and_false (lies_within (from + 1) (from + 1 + n) b) ∙ sym (ap (λ t. lies_within from (from + suc n) b && t) off ∙ and_false (lies_within from (from + suc n) b))

pub runs_of-has : (test : ℕ → Bool) (from n b : ℕ) → has b (runs_of (filter test (counted from n))) ≡ (lies_within from (from + n) b && test b)
runs_of-has test from zero b = ap (λ t. t && test b) (sym (none_within from b))
runs_of-has test from (suc n) b =
    let rest = runs_of-rises test (from + 1) n in
    let known = runs_of-has test (from + 1) n b in
    cond_both (test from) _ _ (λ xs. has b (runs_of xs) ≡ (lies_within from (from + suc n) b && test b))
    (λ e. before_has from _ b rest ∙ ap (λ t. eqb b from || t) known ∙ ⊎_elim (λ s. at_start test from n b s e) (λ s. not_start_true test from n b s) (cases_eq b from))
    (λ e. known ∙ ⊎_elim (λ s. at_start_false test from n b s e) (λ s. not_start test from n b s) (cases_eq b from))

pub runs_are_unique_law : RunsAreUnique
runs_are_unique_law these those hx hy same = unique 0 these those hx hy same

from_zero : (count b : ℕ) → ltb b count ≡ lies_within 0 (0 + count) b
from_zero count b = grind (arith, nat_tests)

pub has_runs_of_law : RunsOfAccepted
has_runs_of_law runs test count h same =
    unique 0 runs (runs_of (filter test (counted 0 count))) h (runs_of-rises test 0 count)
    (λ b. same b ∙ ap (λ t. t && test b) (from_zero count b) ∙ sym (runs_of-has test 0 count b))

-- a block of the set is in the first run or in a later one
in_one : (x : Run) (xs : List Run) (b : ℕ) → has b (x ∷ xs) ≡ true → ((x.first ≤ b) × (b < x.end)) ⊎ (has b xs ≡ true)
in_one x xs b is = ⊎_elim (λ e. inl (lies_is x.first x.end b e)) (λ e. inr e) (or_cases (lies_within x.first x.end b) (has b xs) is)

-- every block of the set is below the last end
below_last : (low : ℕ) (x : Run) (xs : List Run) (b : ℕ) → RisesFrom low (x ∷ xs) → has b (x ∷ xs) ≡ true → b < last_end x.end xs
below_last low x [] b h is = ⊎_elim (λ w. w.1) (λ e. absurd (false≢true e)) (in_one x [] b is)
below_last low x (y ∷ ys) b h is =
    let more : x.end ≤ last_end x.end (y ∷ ys) = last_end_above x.end (y ∷ ys) h.2 in
    ⊎_elim (λ w. let within : b < x.end = w.1 in omega arith) (λ e. below_last (x.end + 1) y ys b h.2 e) (in_one x (y ∷ ys) b is)

-- the block before the last end is in the set
last_in : (low : ℕ) (x : Run) (xs : List Run) → RisesFrom low (x ∷ xs) → has (last_end x.end xs - 1) (x ∷ xs) ≡ true
last_in low x [] h = in_first x [] (x.end - 1) (omega arith) (omega arith)
last_in low x (y ∷ ys) h = or_right (lies_within x.first x.end (last_end x.end (y ∷ ys) - 1)) (has (last_end x.end (y ∷ ys) - 1) (y ∷ ys)) (last_in (x.end + 1) y ys h.2)

between_hull : (x : Run) (xs : List Run) (b : ℕ) → Rises (x ∷ xs) → has b (hull_of (x ∷ xs)) ≡ true → IsBetween (x ∷ xs) b
between_hull x xs b h is =
    ⊎_elim
    (λ w. let from : x.first ≤ b = w.0 in let till : b < last_end x.end xs = w.1 in record { low = x.first; high = last_end x.end xs - 1; has_low = in_first x xs x.first (omega arith) h.1; has_high = last_in 0 x xs h; above = from; below = omega arith })
    (λ e. absurd (false≢true e))
    (in_one (record { first = x.first; end = last_end x.end xs }) [] b is)

hull_between : (x : Run) (xs : List Run) (b : ℕ) → Rises (x ∷ xs) → IsBetween (x ∷ xs) b → has b (hull_of (x ∷ xs)) ≡ true
hull_between x xs b h w =
    let from : x.first ≤ w.low = from_first 0 x xs w.low h w.has_low in
    let till : w.high < last_end x.end xs = below_last 0 x xs w.high h w.has_high in
    let above : w.low ≤ b = w.above in
    let below : b ≤ w.high = w.below in
    in_first (record { first = x.first; end = last_end x.end xs }) [] b (omega arith) (omega arith)

pub has_hull_law : HullIsBetween
has_hull_law [] b h = (λ is. absurd (false≢true is), λ w. absurd (false≢true w.has_low))
has_hull_law (x ∷ xs) b h = (between_hull x xs b h, hull_between x xs b h)
