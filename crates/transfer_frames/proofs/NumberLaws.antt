-- A number that is written is read again, and what is read was written so.
use Rattle.std.proofs.Common.{◌≡◌, ◌≢◌, ℕ, ◌+◌, ◌^◌, ◌<◌, ◌≤◌, List, ◌++◌, length, get_or, take, drop, refl, sym, ap, ◌∙◌, arith, inl, inr, rules}
use Rattle.std.specs.Prelude.{ℤ, pos, FitsSigned}
use Rattle.std.specs.Int.{w32, w64, from_le_bytes, cast_signed, cast_unsigned}
use Rattle.std.proofs.lemmas.Bool.{cases_lt}
use Rattle.std.proofs.lemmas.Int.{to_z-of_z, of_z-to_z, ints}
use Rattle.std.proofs.lemmas.List.{take-append-drop, length-take, get_or-drop, get_or-take, get_or_past}
use Rattle.std.proofs.lemmas.Nat.{le_bytes_4, le_bytes_8, from_le_bytes-to_le_bytes_4, from_le_bytes-to_le_bytes_8}
use Rattle.transfer_frames.specs.Numbers.{word_bytes, word_of, long_bytes, long_of, rid_bytes, rid_of, IsRid, IsBytes}

pub IsBytes-drop : (n : ℕ) (bytes : List ℕ) → IsBytes bytes → IsBytes (drop n bytes)
IsBytes-drop n bytes h i = rw get_or-drop (h (n + i))

pub IsBytes-take : (n : ℕ) (bytes : List ℕ) → IsBytes bytes → IsBytes (take n bytes)
IsBytes-take n bytes h i =
    elim (cases_lt i n) [
      | inl lt ↦ rw (get_or-take n bytes i 0 lt) (h i)
      | inr le ↦ rw (get_or_past (take n bytes) i 0 (omega (arith, length-take n bytes))) (omega arith)
    ]

-- ---- words

pub length-word_bytes : (n : ℕ) → length (word_bytes n) ≡ 4
unfolding word_bytes
length-word_bytes n = refl

pub word_of-word_bytes : (n : ℕ) (rest : List ℕ) → n < 2 ^ 32 → word_of (word_bytes n ++ rest) ≡ n
unfolding word_bytes word_of
word_of-word_bytes n rest lt = from_le_bytes-to_le_bytes_4 n lt

pub word_of-take : (n : ℕ) (bytes : List ℕ) → 4 ≤ n → word_of (take n bytes) ≡ word_of bytes
unfolding word_of
word_of-take n bytes le =
    let a : get_or (take n bytes) 0 0 ≡ get_or bytes 0 0 = get_or-take n bytes 0 0 (omega arith) in
    let b : get_or (take n bytes) 1 0 ≡ get_or bytes 1 0 = get_or-take n bytes 1 0 (omega arith) in
    let c : get_or (take n bytes) 2 0 ≡ get_or bytes 2 0 = get_or-take n bytes 2 0 (omega arith) in
    let d : get_or (take n bytes) 3 0 ≡ get_or bytes 3 0 = get_or-take n bytes 3 0 (omega arith) in
    rw (a, b, c, d) refl

pub word_of-below : (bytes : List ℕ) → IsBytes bytes → word_of bytes < 2 ^ 32
unfolding word_of
word_of-below bytes fits = omega (arith, fits 0, fits 1, fits 2, fits 3)

word_again : (cells : List ℕ) → length cells ≡ 4 → IsBytes cells → word_bytes (word_of cells) ≡ cells
unfolding word_bytes word_of
word_again cells l fits = le_bytes_4 cells (from_le_bytes w32 cells) l fits refl

pub word_bytes-word_of : (bytes : List ℕ) → 4 ≤ length bytes → IsBytes bytes → word_bytes (word_of bytes) ≡ take 4 bytes
word_bytes-word_of bytes len fits =
    ap word_bytes (sym (word_of-take 4 bytes (omega arith))) ∙ word_again (take 4 bytes) (omega (arith, length-take 4 bytes)) (IsBytes-take 4 bytes fits)

pub word_parts : (bytes : List ℕ) → 4 ≤ length bytes → IsBytes bytes → word_bytes (word_of bytes) ++ drop 4 bytes ≡ bytes
word_parts bytes len fits = ap (λ (x : List ℕ). x ++ drop 4 bytes) (word_bytes-word_of bytes len fits) ∙ take-append-drop 4 bytes

-- ---- numbers of eight bytes

pub length-long_bytes : (n : ℕ) → length (long_bytes n) ≡ 8
unfolding long_bytes
length-long_bytes n = refl

pub long_of-long_bytes : (n : ℕ) (rest : List ℕ) → n < 2 ^ 64 → long_of (long_bytes n ++ rest) ≡ n
unfolding long_bytes long_of
long_of-long_bytes n rest lt = from_le_bytes-to_le_bytes_8 n lt

pub long_of-below : (bytes : List ℕ) → IsBytes bytes → long_of bytes < 2 ^ 64
unfolding long_of
long_of-below bytes fits = omega (arith, fits 0, fits 1, fits 2, fits 3, fits 4, fits 5, fits 6, fits 7)

pub long_bytes-long_of : (bytes : List ℕ) → length bytes ≡ 8 → IsBytes bytes → long_bytes (long_of bytes) ≡ bytes
unfolding long_bytes long_of
long_bytes-long_of bytes len fits = le_bytes_8 bytes (from_le_bytes w64 bytes) len fits refl

-- ---- signed words

pub cast_below : (z : ℤ) → FitsSigned w32 z → cast_unsigned w32 z < 2 ^ 32
cast_below z fits = omega (arith, ints)

pub cast_again : (n : ℕ) → n < 2 ^ 32 → cast_unsigned w32 (cast_signed w32 n) ≡ n
cast_again n lt = of_z-to_z w32 n lt

pub cast_zero : (n : ℕ) → n < 2 ^ 32 → cast_signed w32 n ≡ pos 0 → n ≡ 0
cast_zero n lt e = sym (cast_again n lt) ∙ ap (cast_unsigned w32) e

pub cast_not_zero : (z : ℤ) → IsRid z → cast_unsigned w32 z ≢ 0
cast_not_zero z rid e = rid.0 (sym (to_z-of_z w32 z rid.1) ∙ ap (cast_signed w32) e)

pub length-rid_bytes : (z : ℤ) → length (rid_bytes z) ≡ 4
unfolding rid_bytes
length-rid_bytes z = length-word_bytes (cast_unsigned w32 z)

pub word_of-rid_bytes : (z : ℤ) (rest : List ℕ) → FitsSigned w32 z → word_of (rid_bytes z ++ rest) ≡ cast_unsigned w32 z
unfolding rid_bytes
word_of-rid_bytes z rest fits = word_of-word_bytes (cast_unsigned w32 z) rest (cast_below z fits)

pub rid_of-rid_bytes : (z : ℤ) (rest : List ℕ) → FitsSigned w32 z → rid_of (rid_bytes z ++ rest) ≡ z
unfolding rid_of
rid_of-rid_bytes z rest fits = ap (cast_signed w32) (word_of-rid_bytes z rest fits) ∙ to_z-of_z w32 z fits

pub rid_bytes-rid_of : (bytes : List ℕ) → IsBytes bytes → rid_bytes (rid_of bytes) ≡ word_bytes (word_of bytes)
unfolding rid_bytes rid_of
rid_bytes-rid_of bytes fits = ap word_bytes (cast_again (word_of bytes) (word_of-below bytes fits))

pub rid_parts : (bytes : List ℕ) → 4 ≤ length bytes → IsBytes bytes → rid_bytes (rid_of bytes) ++ drop 4 bytes ≡ bytes
rid_parts bytes len fits = ap (λ (x : List ℕ). x ++ drop 4 bytes) (rid_bytes-rid_of bytes fits) ∙ word_parts bytes len fits

pub cast_fits : (n : ℕ) → n < 2 ^ 32 → FitsSigned w32 (cast_signed w32 n)
cast_fits n lt = search (rules, ints)

pub IsRid-cast : (n : ℕ) → n < 2 ^ 32 → n ≢ 0 → IsRid (cast_signed w32 n)
IsRid-cast n lt ne = (λ e. ne (cast_zero n lt e), cast_fits n lt)

pub IsRid-rid_of : (bytes : List ℕ) → IsBytes bytes → word_of bytes ≢ 0 → IsRid (rid_of bytes)
unfolding rid_of
IsRid-rid_of bytes fits ne = IsRid-cast (word_of bytes) (word_of-below bytes fits) ne
