-- The parts of a file's segments have as many words as the pieces have, so the copies of a group have just the bytes of its fills.
use Rattle.std.proofs.Common.{◌≡◌, ℕ, ◌+◌, ◌-◌, ◌*◌, ◌≤◌, min, List, [], ◌∷◌, ◌++◌, length, take, drop, map, ℤ, sum, flat_map, refl, ap, ◌∙◌, arith, length-append, length-drop, take-append-drop}
use Rattle.std.proofs.Math.Dec.{ltb}
use Rattle.std.proofs.lemmas.Bool.{cond_both, ltb-false}
use Rattle.std.proofs.lemmas.List.Sums.{sum_by-cons}
use Rattle.block_intervals.specs.declared.run.Run.{Run}
use Rattle.transfer_frames.specs.Numbers.{long_bytes}
use Rattle.transfer_frames.proofs.NumberLaws.{length-long_bytes}
use Rattle.half_model.specs.declared.notes.CopyRecord.{CopyRecord}
use Rattle.half_model.specs.Filling.{Part, part_in, parts_from, parts_of_piece, parts_of, words_bytes, fills, Ascends}
use Rattle.half_model.specs.Group.{Owed, part_of, words_in}
use Rattle.half_model.specs.StoryLaws.{filled_by}
use Rattle.half_model.proofs.Pieces.{blocks_in}

-- how many words parts have
abbrev pub words_count : List Part → ℕ
words_count [] = 0
words_count (part ∷ parts) = part.count + words_count parts

count_append : (xs ys : List Part) → words_count (xs ++ ys) ≡ words_count xs + words_count ys
count_append [] ys = omega arith
count_append (x ∷ xs) ys = let e = count_append xs ys in omega (arith, e)

count_part : (file : ℤ) (segment words first end : ℕ) → words_count (part_in file segment words first end) ≡ min words end - first
count_part file segment words first end =
    cond_both (ltb first (min words end)) (record { file = file; segment = segment; first = first; count = min words end - first } ∷ []) []
    (λ parts. words_count parts ≡ min words end - first)
    (λ e. omega arith) (λ e. let l : min words end ≤ first = ltb-false first (min words end) e in omega (arith, l))

count_from : (file : ℤ) (segment : ℕ) (segments : List ℕ) (first end : ℕ) → words_count (parts_from file segment segments first end) ≡ min (sum segments) end - first
count_from file segment [] first end = omega arith
count_from file segment (words ∷ segments) first end =
    let rest = count_from file (segment + 1) segments (first - words) (end - words) in
    let one = count_part file segment words first end in
    let all = count_append (part_in file segment words first end) (parts_from file (segment + 1) segments (first - words) (end - words)) in
    let more : sum (words ∷ segments) ≡ words + sum segments = sum_by-cons (λ x. x) words segments in
    omega (arith, rest, one, all, more)

pub count_parts : (file : ℤ) (segments : List ℕ) (low high : ℕ) (pieces : List Run) → Ascends low pieces high → 8 * high ≤ sum segments
    → (low ≤ high) × (words_count (parts_of file segments pieces) ≡ 8 * blocks_in pieces)
count_parts file segments low high [] h c = (h, omega arith)
count_parts file segments low high (piece ∷ pieces) h c =
    let rest = count_parts file segments piece.end high pieces h.2 c in
    let one = count_from file 0 segments (8 * piece.first) (8 * piece.end) in
    let all = count_append (parts_of_piece file segments piece) (parts_of file segments pieces) in
    (omega (arith, h.0, h.1, rest.0), omega (arith, h.1, rest.0, rest.1, one, all, c))

-- ---- copies

count_copies : (copies : List CopyRecord) → length (words_in copies) ≡ words_count (map part_of copies)
count_copies [] = refl
count_copies (copy ∷ copies) =
    let rest = count_copies copies in
    let all = length-append copy.words (words_in copies) in
    omega (arith, rest, all)

pub length-words_bytes : (words : List ℕ) → length (words_bytes words) ≡ 8 * length words
length-words_bytes [] = omega arith
length-words_bytes (word ∷ words) =
    let rest = length-words_bytes words in
    let one = length-long_bytes word in
    let all = length-append (long_bytes word) (words_bytes words) in
    omega (arith, rest, one, all)

-- the copies of a group have the bytes of its fills
pub copied_bytes : (owed : Owed) (copies : List CopyRecord) (high : ℕ) → Ascends 0 owed.pieces high → 8 * high ≤ sum owed.segments
    → map part_of copies ≡ parts_of owed.file owed.segments owed.pieces
    → length (words_bytes (words_in copies)) ≡ 64 * blocks_in owed.pieces
copied_bytes owed copies high asc c parts =
    let bytes = length-words_bytes (words_in copies) in
    let words = count_copies copies in
    let same : words_count (map part_of copies) ≡ words_count (parts_of owed.file owed.segments owed.pieces) = ap words_count parts in
    let count = (count_parts owed.file owed.segments 0 high owed.pieces asc c).1 in
    omega (arith, bytes, words, same, count)

-- ---- fills

no_items : (bytes : List ℕ) → length bytes ≡ 0 → [] ≡ bytes
no_items [] e = refl
no_items (b ∷ bytes) e = absurd (omega (arith, e))

pub filled-fills : (rid : ℤ) (pieces : List Run) (bytes : List ℕ) → length bytes ≡ 64 * blocks_in pieces → flat_map filled_by (fills rid pieces bytes) ≡ bytes
filled-fills rid [] bytes e = no_items bytes (omega (arith, e))
filled-fills rid (piece ∷ pieces) bytes e =
    let count : ℕ = 64 * (piece.end - piece.first) in
    let left = length-drop count bytes in
    ap (λ (rest : List ℕ). take count bytes ++ rest) (filled-fills rid pieces (drop count bytes) (omega (arith, e, left)))
    ∙ take-append-drop count bytes
