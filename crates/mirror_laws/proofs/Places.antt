-- The words of a piece, one after another, are words of the copies of its parts, each at its place in the segments.
use Rattle.std.proofs.Common.{◌≡◌, ℕ, ◌+◌, ◌-◌, ◌<◌, ◌≤◌, min, Bool, true, false, cond, List, [], ◌∷◌, ◌++◌, length, get_or, map, ℤ, sum, ⊎_elim, refl, sym, ap, ◌∙◌, arith}
use Rattle.std.proofs.Math.Dec.{ltb}
use Rattle.std.proofs.lemmas.Bool.{cases_lt, cond-true, cond-false, ltb-true, ltb-false, lt-ltb, le-ltb}
use Rattle.std.proofs.lemmas.List.{get_or_append_left, get_or-append_right}
use Rattle.std.proofs.lemmas.List.Elements.{Contains-append_right, Contains-get_or}
use Rattle.std.proofs.lemmas.List.Sums.{sum_by-cons}
use Rattle.std.specs.List.{Contains}
use Rattle.shm_pools.specs.Files.{segment_of, offset_of}
use Rattle.half_model.specs.declared.notes.CopyRecord.{CopyRecord}
use Rattle.half_model.specs.Filling.{Part, parts_from}
use Rattle.half_model.specs.Group.{part_of, words_in}

-- a value is a word of one copy, which is the word of this number in segments of these sizes, the first of which has this number
pub record IsCopied (file : ℤ) (segment : ℕ) (sizes : List ℕ) (copies : List CopyRecord) (word value : ℕ) : Type 0 where
  pub copy : CopyRecord
  pub is_one : Contains copies copy
  pub index : ℕ
  pub within : index < length copy.words
  pub value_is : get_or copy.words index 0 ≡ value
  pub file_is : copy.file ≡ file
  pub segment_is : copy.segment ≡ segment + segment_of sizes word
  pub word_is : copy.first + index ≡ offset_of sizes word

-- more copies, and another way to write the same word and value
pub moved : (file : ℤ) (segment : ℕ) (sizes : List ℕ) (some all : List CopyRecord) (word value same : ℕ)
    → ((copy : CopyRecord) → Contains some copy → Contains all copy) → value ≡ same
    → IsCopied file segment sizes some word value → IsCopied file segment sizes all word same
moved file segment sizes some all word value same more e h = record {
  copy = h.copy;
  is_one = more h.copy h.is_one;
  index = h.index;
  within = h.within;
  value_is = h.value_is ∙ e;
  file_is = h.file_is;
  segment_is = h.segment_is;
  word_is = h.word_is;
}

-- a word past the first segment
later : (file : ℤ) (segment size : ℕ) (sizes : List ℕ) (copies : List CopyRecord) (word rest value : ℕ) → size ≤ word → word - size ≡ rest
    → IsCopied file (segment + 1) sizes copies rest value → IsCopied file segment (size ∷ sizes) copies word value
later file segment size sizes copies word rest value past e h =
    let far : ltb word size ≡ false = le-ltb word size past in
    let seg : segment_of (size ∷ sizes) word ≡ segment_of sizes rest + 1 = cond-false (ltb word size) 0 _ far ∙ ap (λ (n : ℕ). segment_of sizes n + 1) e in
    let off : offset_of (size ∷ sizes) word ≡ offset_of sizes rest = cond-false (ltb word size) word _ far ∙ ap (offset_of sizes) e in
    let at = h.segment_is in
    record {
      copy = h.copy;
      is_one = h.is_one;
      index = h.index;
      within = h.within;
      value_is = h.value_is;
      file_is = h.file_is;
      segment_is = omega (arith, at, seg);
      word_is = h.word_is ∙ sym off;
    }

-- a word of the copy in the first segment
here : (file : ℤ) (segment size : ℕ) (sizes : List ℕ) (copy : CopyRecord) (others : List CopyRecord) (first count j : ℕ)
    → part_of copy ≡ record { file = file; segment = segment; first = first; count = count } → j < count → first + j < size
    → IsCopied file segment (size ∷ sizes) (copy ∷ others) (first + j) (get_or (words_in (copy ∷ others)) j 0)
here file segment size sizes copy others first count j part l near =
    let long : length copy.words ≡ count = ap (λ (p : Part). p.count) part in
    let close : ltb (first + j) size ≡ true = lt-ltb (first + j) size near in
    let seg : segment_of (size ∷ sizes) (first + j) ≡ 0 = cond-true (ltb (first + j) size) 0 _ close in
    let off : offset_of (size ∷ sizes) (first + j) ≡ first + j = cond-true (ltb (first + j) size) (first + j) _ close in
    let at : copy.segment ≡ segment = ap (λ (p : Part). p.segment) part in
    let from : copy.first ≡ first = ap (λ (p : Part). p.first) part in
    record {
      copy = copy;
      is_one = Contains-get_or (copy ∷ others) 0 copy (omega arith);
      index = j;
      within = omega (arith, long, l);
      value_is = sym (get_or_append_left copy.words (words_in others) 0 j (omega (arith, long, l)));
      file_is = ap (λ (p : Part). p.file) part;
      segment_is = omega (arith, seg, at);
      word_is = omega (arith, off, from);
    }

-- what the copies of the later segments have
abbrev Rest : ℤ → ℕ → List ℕ → ℕ → ℕ → Type 0
Rest file segment sizes first end =
    (copies : List CopyRecord) (j : ℕ) → map part_of copies ≡ parts_from file segment sizes first end → first + j < end
    → IsCopied file segment sizes copies (first + j) (get_or (words_in copies) j 0)

one_copy : (copies : List CopyRecord) (part : Part) → map part_of copies ≡ part ∷ [] → (copy : CopyRecord) × (copies ≡ copy ∷ []) × (part_of copy ≡ part)
one_copy [] part e = absurd cc
one_copy (copy ∷ []) part e = (copy, refl, cc)
one_copy (copy ∷ next ∷ copies) part e = absurd cc

-- the first segment has some of the words
with_part : (file : ℤ) (segment size : ℕ) (sizes : List ℕ) (first end j : ℕ) (copies : List CopyRecord) → first < min size end
    → map part_of copies ≡ record { file = file; segment = segment; first = first; count = min size end - first } ∷ parts_from file (segment + 1) sizes (first - size) (end - size)
    → first + j < end → Rest file (segment + 1) sizes (first - size) (end - size)
    → IsCopied file segment (size ∷ sizes) copies (first + j) (get_or (words_in copies) j 0)
with_part file segment size sizes first end j [] some parts l rest = absurd cc
with_part file segment size sizes first end j (copy ∷ others) some parts l rest =
    let count : ℕ = min size end - first in
    let part : part_of copy ≡ record { file = file; segment = segment; first = first; count = count } = cc in
    let more : map part_of others ≡ parts_from file (segment + 1) sizes (first - size) (end - size) = cc in
    let long : length copy.words ≡ count = ap (λ (p : Part). p.count) part in
    ⊎_elim
    (λ near. here file segment size sizes copy others first count j part near (omega (arith, near, some)))
    (λ far.
    let value : get_or (words_in others) (j - count) 0 ≡ get_or (words_in (copy ∷ others)) j 0 = sym (get_or-append_right copy.words (words_in others) count j 0 long far) in
    later file segment size sizes (copy ∷ others) (first + j) (first - size + (j - count)) (get_or (words_in (copy ∷ others)) j 0) (omega (arith, far, l, some)) (omega (arith, far, l, some))
    (moved file (segment + 1) sizes others (copy ∷ others) (first - size + (j - count)) (get_or (words_in others) (j - count) 0) (get_or (words_in (copy ∷ others)) j 0)
    (λ c is. Contains-append_right (copy ∷ []) others c is) value
    (rest others (j - count) more (omega (arith, far, l, some)))))
    (cases_lt j count)

-- the words of a row from one word of the segments on
pub copied_word : (file : ℤ) (segment : ℕ) (sizes : List ℕ) (first end : ℕ) → end ≤ sum sizes → Rest file segment sizes first end
copied_word file segment [] first end le copies j parts l = absurd (omega (arith, le, l))
copied_word file segment (size ∷ sizes) first end le copies j parts l =
    let all : sum (size ∷ sizes) ≡ size + sum sizes = sum_by-cons (λ x. x) size sizes in
    by (copied_word file (segment + 1) sizes (first - size) (end - size) (omega (arith, le, all))) (ltb first (min size end)) refl parts
  where
    by : Rest file (segment + 1) sizes (first - size) (end - size) → (b : Bool) → ltb first (min size end) ≡ b
        → map part_of copies ≡ cond b (record { file = file; segment = segment; first = first; count = min size end - first } ∷ []) [] ++ parts_from file (segment + 1) sizes (first - size) (end - size)
        → IsCopied file segment (size ∷ sizes) copies (first + j) (get_or (words_in copies) j 0)
    by rest true e parts' = with_part file segment size sizes first end j copies (ltb-true first (min size end) e) parts' l rest
    by rest false e parts' =
        let past : min size end ≤ first = ltb-false first (min size end) e in
        later file segment size sizes copies (first + j) (first - size + j) (get_or (words_in copies) j 0) (omega (arith, past, l)) (omega (arith, past, l))
        (rest copies j parts' (omega (arith, past, l)))
