-- What a look-up, a hull and a merge owe.
use Rattle.std.proofs.Common.{◌≡◌, ℕ, suc, ◌+◌, ◌-◌, ◌<◌, ◌≤◌, false, ◌||◌, List, [], ◌∷◌, ◌++◌, length, get_or, set, take, drop, leb, refl, sym, ap, ◌∙◌, arith, subst}
use Rattle.std.specs.List.{AllWithin}
use Rattle.std.proofs.lemmas.Bool.Decides.{nat_tests}
use Rattle.std.proofs.lemmas.List.{take-append-drop, drop_more, take_all, length-take, get_or-take, get_or_read}
use Rattle.block_intervals.specs.declared.run.Run.{Run}
use Rattle.block_intervals.specs.Sets.{has, lies_within, RisesFrom, Rises, hull_of, last_end}
use Rattle.block_intervals.proofs.RunLemmas.{or_assoc, or_comm, has-append, has_below, has_above, rises_rest}

-- the front of the runs that end at a block or before does not have it
pub front_has_not : (runs : List Run) (b at : ℕ) → AllWithin (λ r. r.end ≤ b) runs 0 at → has b (take at runs) ≡ false
front_has_not runs b at before =
    has_above b (take at runs)
    (λ k d l. let short : k < at = omega (arith, length-take at runs) in
    subst (λ (r : Run). r.end ≤ b) (sym (get_or-take at runs k d short)) (before k d (omega arith) short))

pub lies_before : (first end b : ℕ) → b < end → lies_within first end b ≡ leb first b
lies_before first end b l = grind (arith, nat_tests)

-- a block of the set lies in the first run that ends after it
pub has_at : (runs : List Run) (b at : ℕ) (x d : Run) → Rises runs → at < length runs → get_or runs at d ≡ x → AllWithin (λ r. r.end ≤ b) runs 0 at → b < x.end → leb x.first b ≡ has b runs
has_at runs b at x d h l is before ends =
    let split : runs ≡ take at runs ++ x ∷ drop (at + 1) runs =
    sym (take-append-drop at runs) ∙ ap (λ t. take at runs ++ t) (drop_more runs at d l ∙ ap (λ (t : Run). t ∷ drop (at + 1) runs) is) in
    let whole : has b runs ≡ (has b (take at runs) || has b (x ∷ drop (at + 1) runs)) = ap (has b) split ∙ has-append b (take at runs) (x ∷ drop (at + 1) runs) in
    let rest : RisesFrom 0 (x ∷ drop (at + 1) runs) = rises_rest 0 (take at runs) (x ∷ drop (at + 1) runs) (subst (λ (xs : List Run). RisesFrom 0 xs) split h) in
    let above : has b (drop (at + 1) runs) ≡ false = has_below (x.end + 1) b (drop (at + 1) runs) rest.2 (omega arith) in
    let here : lies_within x.first x.end b ≡ leb x.first b = lies_before x.first x.end b ends in
    sym (whole ∙ ap (λ t. t || has b (x ∷ drop (at + 1) runs)) (front_has_not runs b at before)
    ∙ ap (λ t. lies_within x.first x.end b || t) above ∙ or_comm (lies_within x.first x.end b) false ∙ here)

-- and none does where all end before it
pub has_past : (runs : List Run) (b at : ℕ) → length runs ≤ at → AllWithin (λ r. r.end ≤ b) runs 0 at → has b runs ≡ false
has_past runs b at l before = ap (has b) (sym (take_all at runs l)) ∙ front_has_not runs b at before

pub last_end_above : (e : ℕ) (xs : List Run) → RisesFrom (e + 1) xs → e ≤ last_end e xs
last_end_above e [] h = omega arith
last_end_above e (x ∷ xs) h =
    let at : e + 1 ≤ x.first = h.0 in
    let some : x.first < x.end = h.1 in
    let more : x.end ≤ last_end x.end xs = last_end_above x.end xs h.2 in
    omega arith

pub hull-rises : (runs : List Run) → Rises runs → Rises (hull_of runs)
hull-rises [] h = tt
hull-rises (x ∷ xs) h =
    let some : x.first < x.end = h.1 in
    let more : x.end ≤ last_end x.end xs = last_end_above x.end xs h.2 in
    (omega arith, omega arith, tt)

last_end-is : (e : ℕ) (x : Run) (xs : List Run) (d : Run) → last_end e (x ∷ xs) ≡ (get_or (x ∷ xs) (length xs) d).end
last_end-is e x [] d = refl
last_end-is e x (y ∷ ys) d = last_end-is x.end y ys d

-- what was read at the last place is there at any default
pub last_at : (runs : List Run) (count : ℕ) (y d : Run) → count ≡ length runs → 0 < count → y ≡ get_or runs (count - 1) y → y ≡ get_or runs (length runs - 1) d
last_at runs count y d counted some last =
    get_or_read runs (length runs - 1) y (omega arith) (last ∙ ap (λ n. get_or runs (n - 1) y) counted) d

-- one run in place of all is the hull
pub hull_is : (runs : List Run) (x y d : Run) → 0 < length runs → get_or runs 0 d ≡ x → get_or runs (length runs - 1) d ≡ y → set (take 1 runs) 0 (record { first = x.first; end = y.end }) ≡ hull_of runs
hull_is [] x y d l first last = absurd (omega arith)
hull_is (r ∷ rs) x y d l first last =
    let at : suc (length rs) - 1 ≡ length rs = omega arith in
    let end : y.end ≡ last_end r.end rs = sym (last_end-is 0 r rs d ∙ ap (λ n. (get_or (r ∷ rs) n d).end) (sym at) ∙ ap (λ (t : Run). t.end) last) in
    let begin : x.first ≡ r.first = ap (λ (t : Run). t.first) (sym first) in
    ap (λ (t : ℕ). record { first = t; end = y.end } ∷ []) begin ∙ ap (λ (t : ℕ). record { first = r.first; end = t } ∷ []) end

-- one more run of a list, taken into a set
pub has_step : (b : ℕ) (both runs others : List Run) (at : ℕ) (x d : Run) (new : List Run) → at < length runs → get_or runs at d ≡ x → has b new ≡ (has b both || lies_within x.first x.end b) → (has b new || (has b (drop (at + 1) runs) || has b others)) ≡ (has b both || (has b (drop at runs) || has b others))
has_step b both runs others at x d new l is added =
    let rest : drop at runs ≡ x ∷ drop (at + 1) runs = drop_more runs at d l ∙ ap (λ (t : Run). t ∷ drop (at + 1) runs) is in
    ap (λ t. t || (has b (drop (at + 1) runs) || has b others)) added
    ∙ or_assoc (has b both) (lies_within x.first x.end b) (has b (drop (at + 1) runs) || has b others)
    ∙ ap (λ t. has b both || t) (sym (or_assoc (lies_within x.first x.end b) (has b (drop (at + 1) runs)) (has b others)) ∙ ap (λ (xs : List Run). has b xs || has b others) (sym rest))
