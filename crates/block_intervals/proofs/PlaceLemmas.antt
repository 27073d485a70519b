-- A run in the place of those that it touches: the runs rise still, and its blocks are added.
--
-- The runs are cut into those before the new one, those that it touches and those after it. The touched ones and
-- the new one make one run, by taking them in one after another: each overlaps or adjoins what was taken in so far.
use Rattle.std.proofs.Common.{◌≡◌, ℕ, suc, ◌+◌, ◌-◌, ◌<◌, ◌≤◌, Bool, true, false, ◌||◌, List, [], ◌∷◌, ◌++◌, length, get_or, take, drop, refl, sym, ap, ◌∙◌, arith, subst, ⊎_elim}
use Rattle.std.specs.List.{All, AllWithin, fold}
use Rattle.std.proofs.lemmas.Bool.Decides.{nat_tests}
use Rattle.std.proofs.lemmas.List.{take-append-drop, drop-drop, length-take, get_or-take, get_or-drop, length-drop, get_or_default}
use Rattle.std.proofs.lemmas.Bool.{cases_lt}
use Rattle.block_intervals.specs.declared.run.Run.{Run}
use Rattle.block_intervals.specs.Sets.{has, lies_within, RisesFrom, Rises}
use Rattle.block_intervals.specs.Places.{IsBefore, IsAfter, Touches, spanning, AreTouched}
use Rattle.block_intervals.proofs.RunLemmas.{or_assoc, or_comm, has-append, rises_each, rises_next, rises_firsts, rises_rest, rises_later, firsts_rise, ends_rise}

-- two runs that touch have together just the blocks of the run over both
pub lies_spanning : (s m : Run) (b : ℕ) → Touches s m → lies_within (spanning s m).first (spanning s m).end b ≡ (lies_within s.first s.end b || lies_within m.first m.end b)
lies_spanning s m b t = let early : s.first ≤ m.end = t.0 in let late : m.first ≤ s.end = t.1 in grind (arith, nat_tests)

pub has_spanned : (b : ℕ) (s : Run) (ms : List Run) → All (Touches s) ms → lies_within (fold spanning s ms).first (fold spanning s ms).end b ≡ (lies_within s.first s.end b || has b ms)
has_spanned b s [] all = sym (or_comm (lies_within s.first s.end b) false)
has_spanned b s (m ∷ ms) all =
    let here : Touches s m = all 0 m (omega arith) in
    has_spanned b (spanning s m) ms (λ k d l. let t : Touches s (get_or ms k d) = all (suc k) d (omega arith) in (omega arith, omega arith))
    ∙ ap (λ t. t || has b ms) (lies_spanning s m b here)
    ∙ or_assoc (lies_within s.first s.end b) (lies_within m.first m.end b) (has b ms)

pub rises_spanned : (low : ℕ) (s : Run) (ms after : List Run) → low ≤ s.first → s.first < s.end → RisesFrom low (ms ++ after) → All (IsAfter s) after → RisesFrom low (fold spanning s ms ∷ after)
rises_spanned low s [] after from some h all =
    (from, some, rises_later low (s.end + 1) after h (λ k d l. let t : s.end < (get_or after k d).first = all k d l in omega arith))
rises_spanned low s (m ∷ ms) after from some h all =
    let at : low ≤ m.first = h.0 in
    let within : m.first < m.end = h.1 in
    let rest : RisesFrom (m.end + 1) (ms ++ after) = h.2 in
    rises_spanned low (spanning s m) ms after (omega arith) (omega arith) (rises_rest low (m ∷ []) (ms ++ after) h)
    (λ k d l. let t : s.end < (get_or after k d).first = all k d l in
    let u : m.end + 1 ≤ (get_or after k d).first = rises_firsts (m.end + 1) after (rises_rest (m.end + 1) ms after rest) k d l in
    omega arith)

pub rises_placed : (low : ℕ) (s : Run) (before ms after : List Run) → low ≤ s.first → s.first < s.end → RisesFrom low (before ++ (ms ++ after)) → All (IsBefore s) before → All (IsAfter s) after → RisesFrom low (before ++ fold spanning s ms ∷ after)
rises_placed low s [] ms after from some h first all = rises_spanned low s ms after from some h all
rises_placed low s (x ∷ xs) ms after from some h first all =
    let ends : x.end < s.first = first 0 x (omega arith) in
    (h.0, h.1, rises_placed (x.end + 1) s xs ms after (omega arith) some h.2 (λ k d l. first (suc k) d (omega arith)) all)

shuffle : (x s m y : Bool) → (x || ((s || m) || y)) ≡ ((x || (m || y)) || s)
shuffle true s m y = refl
shuffle false true true y = refl
shuffle false true false true = refl
shuffle false true false false = refl
shuffle false false true true = refl
shuffle false false true false = refl
shuffle false false false true = refl
shuffle false false false false = refl

pub has_placed : (b : ℕ) (s : Run) (before ms after : List Run) → All (Touches s) ms → has b (before ++ fold spanning s ms ∷ after) ≡ (has b (before ++ (ms ++ after)) || lies_within s.first s.end b)
has_placed b s before ms after all =
    let new = has-append b before (fold spanning s ms ∷ after) in
    let old = has-append b before (ms ++ after) in
    let parts = has-append b ms after in
    let joined = has_spanned b s ms all in
    new ∙ ap (λ t. has b before || (t || has b after)) joined ∙ shuffle (has b before) (lies_within s.first s.end b) (has b ms) (has b after)
    ∙ ap (λ t. (has b before || t) || lies_within s.first s.end b) (sym parts) ∙ ap (λ t. t || lies_within s.first s.end b) (sym old)

-- a list as what is before, between and after two places
pub in_three : (xs : List Run) (from to : ℕ) → from ≤ to → take from xs ++ (take (to - from) (drop from xs) ++ drop to xs) ≡ xs
in_three xs from to order =
    let e : from + (to - from) ≡ to = omega arith in
    let tail : drop (to - from) (drop from xs) ≡ drop to xs = drop-drop (to - from) from xs ∙ ap (λ n. drop n xs) e in
    ap (λ t. take from xs ++ (take (to - from) (drop from xs) ++ t)) (sym tail)
    ∙ ap (λ t. take from xs ++ t) (take-append-drop (to - from) (drop from xs))
    ∙ take-append-drop from xs

pub before_all : (runs : List Run) (new : Run) (from to : ℕ) → AreTouched runs new from to → All (IsBefore new) (take from runs)
before_all runs new from to t k d l =
    let short : k < from = omega (arith, length-take from runs) in
    subst (λ (r : Run). r.end < new.first) (sym (get_or-take from runs k d short)) (t.before k d (omega arith) short)

pub between_all : (runs : List Run) (new : Run) (from to : ℕ) → AreTouched runs new from to → All (Touches new) (take (to - from) (drop from runs))
between_all runs new from to t k d l =
    let short : k < to - from = omega (arith, length-take (to - from) (drop from runs)) in
    let P : Run → Type 0 = λ r. Touches new r in
    subst P (sym (get_or-take (to - from) (drop from runs) k d short ∙ get_or-drop from runs k d)) (t.between (from + k) d (omega arith) (omega arith))

pub after_all : (runs : List Run) (new : Run) (from to : ℕ) → AreTouched runs new from to → All (IsAfter new) (drop to runs)
after_all runs new from to t k d l =
    subst (λ (r : Run). new.end < r.first) (sym (get_or-drop to runs k d)) (t.after (to + k) d (omega arith) (omega (arith, length-drop to runs)))

-- the two facts that an added run owes
pub placed_rises : (runs : List Run) (new : Run) (from to : ℕ) → AreTouched runs new from to → new.first < new.end → Rises runs → Rises (take from runs ++ fold spanning new (take (to - from) (drop from runs)) ∷ drop to runs)
placed_rises runs new from to t some h =
    rises_placed 0 new (take from runs) (take (to - from) (drop from runs)) (drop to runs) (omega arith) some
    (subst (λ (xs : List Run). RisesFrom 0 xs) (sym (in_three runs from to t.order)) h) (before_all runs new from to t) (after_all runs new from to t)

pub placed_has : (runs : List Run) (new : Run) (from to : ℕ) → AreTouched runs new from to → (b : ℕ) → has b (take from runs ++ fold spanning new (take (to - from) (drop from runs)) ∷ drop to runs) ≡ (has b runs || lies_within new.first new.end b)
placed_has runs new from to t b =
    has_placed b new (take from runs) (take (to - from) (drop from runs)) (drop to runs) (between_all runs new from to t)
    ∙ ap (λ (xs : List Run). has b xs || lies_within new.first new.end b) (in_three runs from to t.order)

-- a run that begins above the end of the last one touches none
pub touched_none : (runs : List Run) (new : Run) (e : Run) → Rises runs → 0 < length runs → (get_or runs (length runs - 1) e).end < new.first → AreTouched runs new (length runs) (length runs)
touched_none runs new e h some above = record {
  order = omega arith;
  within = omega arith;
  before = λ k d low l.
      let here : (get_or runs k e).end ≤ (get_or runs (length runs - 1) e).end = ends_rise 0 runs h k (length runs - 1) e (omega arith) (omega arith) in
      subst (λ (r : Run). r.end < new.first) (get_or_default runs k e d l) (omega arith);
  between = λ k d low l. absurd (omega arith);
  after = λ k d low l. absurd (omega arith);
}

-- one that begins in the last run, or right at its end, touches it alone
pub touched_last : (runs : List Run) (new : Run) (e : Run) → Rises runs → 0 < length runs → new.first < new.end → new.first ≤ (get_or runs (length runs - 1) e).end → (get_or runs (length runs - 1) e).first ≤ new.first → AreTouched runs new (length runs - 1) (length runs)
touched_last runs new e h some wide ends begins = record {
  order = omega arith;
  within = omega arith;
  before = λ k d low l.
      let in_list : k < length runs = omega arith in
      let next : (get_or runs k e).end < (get_or runs (suc k) e).first = rises_next 0 runs h k e (omega arith) in
      let rise : (get_or runs (suc k) e).first ≤ (get_or runs (length runs - 1) e).first = firsts_rise 0 runs h (suc k) (length runs - 1) e (omega arith) (omega arith) in
      subst (λ (r : Run). r.end < new.first) (get_or_default runs k e d in_list) (omega arith);
  between = λ k d low l.
      let at : length runs - 1 ≡ k = omega arith in
      let P : Run → Type 0 = λ r. Touches new r in
      subst P (get_or_default runs k e d (omega arith)) (subst (λ (n : ℕ). Touches new (get_or runs n e)) at (ends, omega arith));
  after = λ k d low l. absurd (omega arith);
}

-- two searches can't cross, since no run is empty
searches_ordered : (runs : List Run) (new : Run) (from to : ℕ) → Rises runs → new.first < new.end → from ≤ length runs → AllWithin (λ r. r.end < new.first) runs 0 from → AllWithin (λ r. new.end < r.first) runs to (length runs) → to < from → ⊥
searches_ordered runs new from to h wide from_in ended later l =
    let ends : (get_or runs to new).end < new.first = ended to new (omega arith) l in
    let begins : new.end < (get_or runs to new).first = later to new (omega arith) (omega arith) in
    let some : (get_or runs to new).first < (get_or runs to new).end = rises_each 0 runs h to new (omega arith) in
    omega arith

-- what two searches found
pub touched_found : (runs : List Run) (new : Run) (from to : ℕ) → Rises runs → new.first < new.end → from ≤ length runs → to ≤ length runs → AllWithin (λ r. r.end < new.first) runs 0 from → AllWithin (λ r. new.first ≤ r.end) runs from (length runs) → AllWithin (λ r. r.first ≤ new.end) runs 0 to → AllWithin (λ r. new.end < r.first) runs to (length runs) → AreTouched runs new from to
touched_found runs new from to h wide from_in to_in ended there begun later = record {
  order = ⊎_elim (λ crossed. absurd (searches_ordered runs new from to h wide from_in ended later crossed)) (λ e. e) (cases_lt to from);
  within = to_in;
  before = ended;
  between = λ k d low l. (there k d low (omega arith), begun k d (omega arith) l);
  after = later;
}
