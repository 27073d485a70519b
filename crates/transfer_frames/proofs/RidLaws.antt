-- Lists of rids: what is written is read again, and what is read was written so.
use Rattle.std.proofs.Common.{◌≡◌, ℕ, zero, suc, ◌*◌, ◌%◌, ◌^◌, ◌<◌, ◌==◌, false, List, [], ◌∷◌, ◌++◌, length, map, refl, ap, ◌∙◌, arith}
use Rattle.std.specs.Prelude.{ℤ}
use Rattle.std.specs.Int.{w32, cast_signed, cast_unsigned}
use Rattle.std.specs.List.{flat_map, list_any, AllByRecursion}
use Rattle.std.proofs.lemmas.Bool.{ne_eqb, eqb-false, or_parts, or_from}
use Rattle.std.proofs.lemmas.Int.{to_z-of_z}
use Rattle.std.proofs.lemmas.List.{length-append}
use Rattle.transfer_frames.specs.Numbers.{word_bytes, word_of, words_of, rid_bytes, IsRid, IsBytes}
use Rattle.transfer_frames.proofs.NumberLaws.{word_of-word_bytes, word_bytes-word_of, word_of-below, cast_below, cast_again, cast_not_zero, length-rid_bytes, IsRid-cast}

pub length-rids : (rids : List ℤ) → length (flat_map rid_bytes rids) ≡ 4 * length rids
length-rids [] = refl
length-rids (z ∷ rids) = omega (arith, length-append (rid_bytes z) (flat_map rid_bytes rids), length-rid_bytes z, length-rids rids)

words_of-word_bytes : (n : ℕ) (more : List ℕ) → n < 2 ^ 32 → words_of (word_bytes n ++ more) ≡ n ∷ words_of more
unfolding word_bytes
words_of-word_bytes n more lt = ap (λ (w : ℕ). w ∷ words_of more) (word_of-word_bytes n [] lt)

words_of-rid_bytes : (z : ℤ) (more : List ℕ) → IsRid z → words_of (rid_bytes z ++ more) ≡ cast_unsigned w32 z ∷ words_of more
unfolding rid_bytes
words_of-rid_bytes z more rid = words_of-word_bytes (cast_unsigned w32 z) more (cast_below z rid.1)

pub rids_again : (rids : List ℤ) → AllByRecursion IsRid rids → map (cast_signed w32) (words_of (flat_map rid_bytes rids)) ≡ rids
rids_again [] all = refl
rids_again (z ∷ rids) all =
    rw (words_of-rid_bytes z (flat_map rid_bytes rids) all.0, rids_again rids all.1, to_z-of_z w32 z all.0.1) refl

pub rids_not_zero : (rids : List ℤ) → AllByRecursion IsRid rids → list_any (λ word. word == 0) (words_of (flat_map rid_bytes rids)) ≡ false
rids_not_zero [] all = refl
rids_not_zero (z ∷ rids) all =
    rw (words_of-rid_bytes z (flat_map rid_bytes rids) all.0) (or_from _ _ (ne_eqb _ 0 (cast_not_zero z all.0)) (rids_not_zero rids all.1))

IsBytes-front : (a b c d : ℕ) (rest : List ℕ) → IsBytes (a ∷ b ∷ c ∷ d ∷ rest) → IsBytes (a ∷ b ∷ c ∷ d ∷ [])
IsBytes-front a b c d rest fits zero = fits 0
IsBytes-front a b c d rest fits (suc zero) = fits 1
IsBytes-front a b c d rest fits (suc (suc zero)) = fits 2
IsBytes-front a b c d rest fits (suc (suc (suc zero))) = fits 3
IsBytes-front a b c d rest fits (suc (suc (suc (suc i)))) = omega arith

pub rids_spelled : (bytes : List ℕ) → IsBytes bytes → length bytes % 4 ≡ 0 → flat_map rid_bytes (map (cast_signed w32) (words_of bytes)) ≡ bytes
unfolding rid_bytes
rids_spelled [] fits len = refl
rids_spelled (a ∷ []) fits len = absurd (omega arith)
rids_spelled (a ∷ b ∷ []) fits len = absurd (omega arith)
rids_spelled (a ∷ b ∷ c ∷ []) fits len = absurd (omega arith)
rids_spelled (a ∷ b ∷ c ∷ d ∷ rest) fits len =
    let front : List ℕ = a ∷ b ∷ c ∷ d ∷ [] in
    let front_fits : IsBytes (a ∷ b ∷ c ∷ d ∷ []) = IsBytes-front a b c d rest fits in
    let one : word_bytes (cast_unsigned w32 (cast_signed w32 (word_of (a ∷ b ∷ c ∷ d ∷ [])))) ≡ a ∷ b ∷ c ∷ d ∷ [] = ap word_bytes (cast_again (word_of front) (word_of-below front front_fits)) ∙ word_bytes-word_of front (omega arith) front_fits in
    let others : flat_map rid_bytes (map (cast_signed w32) (words_of rest)) ≡ rest = rids_spelled rest (λ i. fits (suc (suc (suc (suc i))))) (omega arith) in
    ap (λ (x : List ℕ). x ++ flat_map rid_bytes (map (cast_signed w32) (words_of rest))) one ∙ ap (λ (x : List ℕ). a ∷ b ∷ c ∷ d ∷ x) others

pub rids_are : (bytes : List ℕ) → IsBytes bytes → list_any (λ word. word == 0) (words_of bytes) ≡ false → AllByRecursion IsRid (map (cast_signed w32) (words_of bytes))
rids_are [] fits none = tt
rids_are (a ∷ []) fits none = tt
rids_are (a ∷ b ∷ []) fits none = tt
rids_are (a ∷ b ∷ c ∷ []) fits none = tt
rids_are (a ∷ b ∷ c ∷ d ∷ rest) fits none =
    let front : List ℕ = a ∷ b ∷ c ∷ d ∷ [] in
    let front_fits : IsBytes (a ∷ b ∷ c ∷ d ∷ []) = IsBytes-front a b c d rest fits in
    let parts = or_parts (word_of front == 0) (list_any (λ word. word == 0) (words_of rest)) none in
    (IsRid-cast (word_of front) (word_of-below front front_fits) (eqb-false _ 0 parts.0), rids_are rest (λ i. fits (suc (suc (suc (suc i))))) parts.1)
