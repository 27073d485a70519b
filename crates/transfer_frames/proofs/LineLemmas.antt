-- Hexadecimal digits of bytes that are written piece by piece.
use Rattle.std.proofs.Common.{◌≡◌, ◌==◌, ◌+◌, ◌<◌, ℕ, true, get_or, map, List, [], ◌∷◌, ◌++◌, length, take, drop, refl, sym, ap, ◌∙◌, append_assoc, take-append-drop}
use Rattle.std.proofs.lemmas.List.{append-nil, nil_from_length, map-append, take_more}
use Rattle.std.proofs.lemmas.Grind.{flat_map-append}
use Rattle.std.specs.Prelude.{ℤ}
use Rattle.std.specs.Fmt.{signed_decimal}
use Rattle.std.proofs.lemmas.Bool.{eqb-true}
use Rattle.hex.specs.Hex.{encode_lower, encode_with}
use Rattle.transfer_frames.specs.FrameLines.{spaced}

encode_with-append : (digits xs ys : List ℕ) → encode_with digits (xs ++ ys) ≡ encode_with digits xs ++ encode_with digits ys
unfolding encode_with
encode_with-append digits [] ys = refl
encode_with-append digits (x ∷ xs) ys = cc (encode_with-append digits xs ys)

encode_with-nil : (digits : List ℕ) → encode_with digits [] ≡ []
unfolding encode_with
encode_with-nil digits = refl

-- one more piece is written
pub piece_written : (whole out after rest piece behind text : List ℕ) (n : ℕ) → whole ≡ out ++ encode_lower rest
    → piece ≡ take n rest → behind ≡ drop n rest → text ≡ encode_lower piece → after ≡ out ++ text → whole ≡ after ++ encode_lower behind
piece_written whole out after rest piece behind text n before front back digits added =
    let parts : rest ≡ piece ++ behind = sym (take-append-drop n rest) ∙ ap (λ (xs : List ℕ). xs ++ drop n rest) (sym front) ∙ ap (λ (xs : List ℕ). piece ++ xs) (sym back) in
    before ∙ ap (λ (xs : List ℕ). out ++ encode_lower xs) parts
    ∙ ap (λ (xs : List ℕ). out ++ xs) (encode_with-append _ piece behind)
    ∙ sym (append_assoc out (encode_lower piece) (encode_lower behind))
    ∙ ap (λ (xs : List ℕ). (out ++ xs) ++ encode_lower behind) (sym digits)
    ∙ ap (λ (xs : List ℕ). xs ++ encode_lower behind) (sym added)

-- all pieces are written
pub all_written : (whole out rest : List ℕ) → whole ≡ out ++ encode_lower rest → (length rest == 0) ≡ true → out ≡ whole
all_written whole out rest before none =
    let empty : rest ≡ [] = nil_from_length rest (eqb-true (length rest) 0 none) in
    sym (before ∙ ap (λ (xs : List ℕ). out ++ encode_lower xs) empty ∙ ap (λ (xs : List ℕ). out ++ xs) (encode_with-nil _) ∙ append-nil out)

-- one more number is shown
pub number_shown : (start out after : List ℕ) (rids : List ℤ) (i : ℕ) (none shown : ℤ) → out ≡ start ++ spaced (map signed_decimal (take i rids)) → i < length rids
    → shown ≡ get_or rids i none → after ≡ out ++ spaced (signed_decimal shown ∷ []) → after ≡ start ++ spaced (map signed_decimal (take (i + 1) rids))
number_shown start out after rids i none shown so_far within same added =
    added ∙ ap (λ (xs : List ℕ). xs ++ spaced (signed_decimal shown ∷ [])) so_far
    ∙ append_assoc start (spaced (map signed_decimal (take i rids))) (spaced (signed_decimal shown ∷ []))
    ∙ ap (λ (xs : List ℕ). start ++ xs) (sym (flat_map-append (λ word. 32 ∷ word) (map signed_decimal (take i rids)) (signed_decimal shown ∷ [])))
    ∙ ap (λ (xs : List (List ℕ)). start ++ spaced xs) (sym (map-append signed_decimal (take i rids) (shown ∷ [])))
    ∙ ap (λ (z : ℤ). start ++ spaced (map signed_decimal (take i rids ++ z ∷ []))) same
    ∙ ap (λ (xs : List ℤ). start ++ spaced (map signed_decimal xs)) (sym (take_more rids i none within))
