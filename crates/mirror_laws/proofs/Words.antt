-- Each word of a mirror's filled blocks is a word of one copy.
use Rattle.std.proofs.Common.{◌≡◌, ℕ, ◌+◌, ◌-◌, ◌*◌, ◌/◌, ◌<◌, ◌≤◌, true, leb, List, [], ◌∷◌, ◌++◌, length, get_or, take, drop, map, ℤ, pos, sum, flat_map, None, ⊎_elim, refl, sym, ap, ◌∙◌, subst, arith, length-drop, take-append-drop, append-nil}
use Rattle.std.proofs.Math.Dec.{ltb}
use Rattle.std.proofs.lemmas.Bool.{or_cases, and_parts, leb-true, ltb-true, false≢true}
use Rattle.std.proofs.lemmas.Grind.{flat_map-append}
use Rattle.std.proofs.lemmas.List.{length-take-le}
use Rattle.std.proofs.lemmas.List.Elements.{Contains-append_left, Contains-append_right}
use Rattle.std.specs.List.{slice_range, Contains}
use Rattle.block_intervals.specs.declared.run.Run.{Run}
use Rattle.block_intervals.specs.Sets.{has, lies_within}
use Rattle.transfer_frames.specs.Numbers.{long_bytes}
use Rattle.half_model.specs.declared.notes.CopyRecord.{CopyRecord}
use Rattle.half_model.specs.Filling.{Ascends, parts_of_piece, parts_of, words_bytes}
use Rattle.half_model.specs.Group.{Owed, part_of, words_in}
use Rattle.half_model.proofs.Copies.{copied_bytes, length-words_bytes}
use Rattle.mirror_laws.specs.MirrorLaws.{bytes_at}
use Rattle.mirror_laws.proofs.Filling.{ends_by}
use Rattle.mirror_laws.proofs.Places.{IsCopied, moved, copied_word}
use Rattle.mirror_laws.proofs.Slices.{same_fronts, front_of_map, rest_of_map, range_in_range, word_among}

-- the word of this number in the mirror is such a word
pub record WordCopied (file : ℤ) (sizes : List ℕ) (copies : List CopyRecord) (mirror : List ℕ) (word : ℕ) : Type 0 where
  pub value : ℕ
  pub bytes : slice_range mirror (8 * word) (8 * (word + 1)) ≡ long_bytes value
  pub is : IsCopied file 0 sizes copies word value

with_more : (file : ℤ) (sizes : List ℕ) (some all : List CopyRecord) (mirror : List ℕ) (word : ℕ) → ((copy : CopyRecord) → Contains some copy → Contains all copy)
    → WordCopied file sizes some mirror word → WordCopied file sizes all mirror word
with_more file sizes some all mirror word more h = record { value = h.value; bytes = h.bytes; is = moved file 0 sizes some all word h.value h.value more refl h.is }

-- ---- one piece

piece_owed : ℤ → List ℕ → Run → Owed
piece_owed file sizes piece = record { before = []; rid = pos 0; file = file; pieces = piece ∷ []; segments = sizes; shown = None }

piece_words : (file : ℤ) (sizes : List ℕ) (piece : Run) (copies : List CopyRecord) → piece.first < piece.end → 8 * piece.end ≤ sum sizes
    → map part_of copies ≡ parts_of_piece file sizes piece → length (words_bytes (words_in copies)) ≡ 64 * (piece.end - piece.first)
unfolding piece_owed
piece_words file sizes piece copies l cover parts =
    let len = copied_bytes (piece_owed file sizes piece) copies piece.end (omega arith, l, omega arith) cover (parts ∙ sym (append-nil (parts_of_piece file sizes piece))) in
    omega (arith, len)

in_piece : (file : ℤ) (sizes : List ℕ) (piece : Run) (copies : List CopyRecord) (mirror : List ℕ) (word : ℕ)
    → 8 * piece.first ≤ word → word < 8 * piece.end → 8 * piece.end ≤ sum sizes → 64 * piece.end ≤ length mirror
    → map part_of copies ≡ parts_of_piece file sizes piece → bytes_at mirror piece ≡ words_bytes (words_in copies)
    → WordCopied file sizes copies mirror word
in_piece file sizes piece copies mirror word low high cover room parts is =
    let first : ℕ = 8 * piece.first in
    let j : ℕ = word - first in
    let words : List ℕ = words_in copies in
    let len = piece_words file sizes piece copies (omega (arith, low, high)) cover parts in
    let each = length-words_bytes words in
    let at : first + j ≡ word = omega (arith, low) in
    let from : 64 * piece.first + 8 * j ≡ 8 * word = omega (arith, low) in
    let to : 64 * piece.first + 8 * (j + 1) ≡ 8 * (word + 1) = omega (arith, low) in
    let got = copied_word file 0 sizes first (8 * piece.end) cover copies j parts (omega (arith, low, high)) in
    let P : ℕ → Type 0 = λ w. IsCopied file 0 sizes copies w (get_or words j 0) in
    record {
      value = get_or words j 0;
      bytes =
          ap (λ (n : ℕ). slice_range mirror n (8 * (word + 1))) (sym from)
          ∙ ap (λ (n : ℕ). slice_range mirror (64 * piece.first + 8 * j) n) (sym to)
          ∙ sym (range_in_range mirror (64 * piece.first) (64 * piece.end) (8 * j) (8 * (j + 1)) (omega arith) (omega (arith, low, high)))
          ∙ ap (λ (xs : List ℕ). slice_range xs (8 * j) (8 * (j + 1))) is
          ∙ word_among words j (omega (arith, len, each, low, high));
      is = subst P at got;
    }

-- ---- all pieces

pub in_pieces : (file : ℤ) (sizes : List ℕ) (low last high : ℕ) (pieces : List Run) (copies : List CopyRecord) (mirror : List ℕ) (word : ℕ)
    → Ascends low pieces last → 64 * last ≤ length mirror → Ascends low pieces high → 8 * high ≤ sum sizes
    → map part_of copies ≡ parts_of file sizes pieces → flat_map (bytes_at mirror) pieces ≡ words_bytes (words_in copies)
    → has (word / 8) pieces ≡ true → WordCopied file sizes copies mirror word
in_pieces file sizes low last high [] copies mirror word asc room up cover parts is one = absurd (false≢true one)
in_pieces file sizes low last high (piece ∷ pieces) copies mirror word asc room up cover parts is one =
    let n : ℕ = length (parts_of_piece file sizes piece) in
    let own : List CopyRecord = take n copies in
    let rest : List CopyRecord = drop n copies in
    let both : own ++ rest ≡ copies = take-append-drop n copies in
    let own_parts = front_of_map part_of copies (parts_of_piece file sizes piece) (parts_of file sizes pieces) parts in
    let rest_parts = rest_of_map part_of copies (parts_of_piece file sizes piece) (parts_of file sizes pieces) parts in
    let end : piece.end ≤ last = ends_by piece.end pieces last asc.2 in
    let top : piece.end ≤ high = ends_by piece.end pieces high up.2 in
    let len = piece_words file sizes piece own asc.1 (omega (arith, top, cover)) own_parts in
    let words : words_bytes (words_in copies) ≡ words_bytes (words_in own) ++ words_bytes (words_in rest) =
    ap (λ (cs : List CopyRecord). words_bytes (words_in cs)) (sym both)
    ∙ ap words_bytes (flat_map-append (λ (copy : CopyRecord). copy.words) own rest)
    ∙ flat_map-append long_bytes (words_in own) (words_in rest) in
    let dropped = length-drop (64 * piece.first) mirror in
    let long : length (bytes_at mirror piece) ≡ 64 * piece.end - 64 * piece.first =
    length-take-le (64 * piece.end - 64 * piece.first) (drop (64 * piece.first) mirror) (omega (arith, dropped, end, room)) in
    let same = same_fronts (bytes_at mirror piece) (flat_map (bytes_at mirror) pieces) (words_bytes (words_in own)) (words_bytes (words_in rest)) (omega (arith, long, len)) (is ∙ words) in
    let C : List CopyRecord → Type 0 = λ cs. WordCopied file sizes cs mirror word in
    ⊎_elim
    (λ within.
    let bounds = and_parts (leb piece.first (word / 8)) (ltb (word / 8) piece.end) within in
    let above = leb-true piece.first (word / 8) bounds.0 in
    let below = ltb-true (word / 8) piece.end bounds.1 in
    subst C both (with_more file sizes own (own ++ rest) mirror word (λ c i. Contains-append_left own rest c i)
    (in_piece file sizes piece own mirror word (omega (arith, above)) (omega (arith, below)) (omega (arith, top, cover)) (omega (arith, end, room)) own_parts same.0)))
    (λ further.
    subst C both (with_more file sizes rest (own ++ rest) mirror word (λ c i. Contains-append_right own rest c i)
    (in_pieces file sizes piece.end last high pieces rest mirror word asc.2 room up.2 cover rest_parts same.1 further)))
    (or_cases (lies_within piece.first piece.end (word / 8)) (has (word / 8) pieces) one)
