-- The worked row, and why the wrong mirrors are refused.
use Rattle.std.proofs.Common.{◌≡◌, ℕ, ◌+◌, ◌-◌, ◌/◌, ◌≤◌, ◌||◌, false, List, [], ◌∷◌, ◌++◌, get_or, replicate, Some, None, ⊎_elim, refl, sym, ap, ◌∙◌, arith}
use Rattle.std.specs.List.{slice_range}
use Rattle.std.proofs.lemmas.Bool.{or_parts, cases_eq}
use Rattle.std.proofs.lemmas.List.{get_or_append_left, get_or-append_right, get_or_past}
use Rattle.std.proofs.lemmas.List.Elements.{All-contains, All-from_recursion, Contains-get_or}
use Rattle.pool_words.specs.History.{at}
use Rattle.shm_pools.specs.declared.places.WordPlace.{WordPlace}
use Rattle.block_intervals.specs.Statements.{counted}
use Rattle.block_intervals.specs.Sets.{has, lies_within}
use Rattle.transfer_frames.specs.Numbers.{long_bytes}
use Rattle.half_model.specs.declared.notes.CopyRecord.{CopyRecord}
use Rattle.half_model.specs.Filling.{words_bytes}
use Rattle.mirror_laws.specs.StoodLaws.{place_of}
use Rattle.mirror_laws.specs.Rows.{run, copy_of, three_copies, written, TenStood, block_of, FromZeros, CommitFills, WrongMirrors, ChangingWord}
use Rattle.mirror_laws.proofs.Filling.{outside}
use Rattle.mirror_laws.proofs.Growing.{get_or-zeros}

pub commit_fills : CommitFills
unfolding long_bytes
commit_fills = record { group = record { are_parts = refl; is = refl }; own = refl; other = refl }

-- two different numbers at one place
clash : (xs ys : List ℕ) (i : ℕ) → xs ≡ ys → get_or xs i 0 ≡ get_or ys i 0
clash xs ys i e = ap (λ (zs : List ℕ). get_or zs i 0) e

right_others : (i : ℕ) → has (i / 64) (run 0 1 ∷ run 2 3 ∷ []) ≡ false → get_or (block_of 1 ++ (block_of 0 ++ block_of 2)) i 0 ≡ get_or (replicate 192 0) i 0
right_others i e =
    let first = or_parts (lies_within 0 1 (i / 64)) (lies_within 2 3 (i / 64) || false) e in
    let second = or_parts (lies_within 2 3 (i / 64)) false first.1 in
    let from : 64 ≤ i = ⊎_elim (λ below. absurd (omega (arith, below))) (λ above. omega (arith, above)) (outside 0 1 i first.0) in
    ⊎_elim
    (λ below.
    get_or-append_right (block_of 1) (block_of 0 ++ block_of 2) 64 i 0 refl from
    ∙ get_or_append_left (block_of 0) (block_of 2) 0 (i - 64) (omega (arith, below, from))
    ∙ get_or-zeros 64 (i - 64)
    ∙ sym (get_or-zeros 192 i))
    (λ above. get_or_past (block_of 1 ++ (block_of 0 ++ block_of 2)) i 0 (omega (arith, above)) ∙ sym (get_or-zeros 192 i))
    (outside 2 3 i second.0)

right : FromZeros (block_of 1 ++ (block_of 0 ++ block_of 2))
right = record {
  sized = refl;
  grows = omega arith;
  within = (omega arith, omega arith, (omega arith, omega arith, omega arith));
  filled = refl;
  others = right_others;
}

pub wrong_mirrors : WrongMirrors
wrong_mirrors = record {
  right = right;
  reversed = λ h. let e : 2 ≡ 1 = clash _ _ 0 h.filled in absurd (omega (arith, e));
  adjoining = λ h. let e : 0 ≡ 2 = clash _ _ 64 h.filled in absurd (omega (arith, e));
  spilled = λ h. let e : 5 ≡ 0 = h.others 64 refl in absurd (omega (arith, e));
  unfilled = λ h. let e : 0 ≡ 1 = clash _ _ 0 h.filled in absurd (omega (arith, e));
  longer = λ h. let e : 256 ≡ 192 = h.sized in absurd (omega (arith, e));
  unsorted = λ h. let up = h.within.2.0 in absurd (omega (arith, up));
  outside = λ h. let up : 2 ≤ 1 = h.within.2 in absurd (omega (arith, up));
  lost = λ h. h;
  made_up = λ h. absurd (let e : Some (block_of 0) ≡ None = h.3 in cc);
  other_changed = λ h. let e : 1 ≡ 0 = h.others 0 refl in absurd (omega (arith, e));
}

-- ---- a word that changes

abbrev BetweenThem : CopyRecord → Type 0
BetweenThem copy = (copy.low ≡ 3) × (copy.high ≡ 4)

-- where word 1 was 5 and then 7 in that time, 10 did not stand
never_ten : (values : List ℕ) → at (written values) 3 1 ≡ 5 → at (written values) 4 1 ≡ 7 → TenStood values → ⊥
unfolding long_bytes
never_ten values third fourth h =
    let same : (a b : WordPlace) → Some a ≡ Some b → a ≡ b = λ a b e. cc in
    let word : 1 ≡ h.copy.first + h.index = ap (λ (p : WordPlace). p.word) (same (record { segment = 1; word = 1 }) (place_of h.copy h.index) h.place) in
    let counts = All-contains BetweenThem three_copies h.copy (All-from_recursion BetweenThem three_copies ((refl, refl), ((refl, refl), ((refl, refl), tt)))) h.is_one in
    let low = counts.0 in
    let high = counts.1 in
    let stood = h.stood.1 in
    let k : ℕ = stood.0 in
    let from = stood.1 in
    let to = stood.2 in
    let held : at (written values) k 1 ≡ get_or h.copy.words h.index 0 = ap (at (written values) k) word ∙ stood.3 in
    let bytes : (value : ℕ) → at (written values) k 1 ≡ value → slice_range (words_bytes (counted 1 16)) 72 80 ≡ long_bytes value =
    λ value e. h.is ∙ ap long_bytes (sym held ∙ e) in
    ⊎_elim
    (λ three. let e : 10 ≡ 5 = clash _ _ 0 (bytes 5 (ap (λ (n : ℕ). at (written values) n 1) three ∙ third)) in absurd (omega (arith, e)))
    (λ other.
    let four : k ≡ 4 = grind (arith, low, high, from, to, other) in
    let e : 10 ≡ 7 = clash _ _ 0 (bytes 7 (ap (λ (n : ℕ). at (written values) n 1) four ∙ fourth)) in
    absurd (omega (arith, e)))
    (cases_eq k 3)

pub changing_word : ChangingWord
unfolding long_bytes
changing_word = record {
  in_time = record {
    copy = copy_of 1 0 9;
    is_one = Contains-get_or three_copies 1 (copy_of 1 0 9) (omega arith);
    index = 1;
    within = omega arith;
    is = refl;
    file = refl;
    place = refl;
    stood = (omega arith, (4, omega arith, omega arith, refl));
  };
  too_late = never_ten (5 ∷ 5 ∷ 5 ∷ 7 ∷ 10 ∷ []) refl refl;
  too_early = never_ten (10 ∷ 10 ∷ 5 ∷ 7 ∷ 6 ∷ []) refl refl;
}
