-- A decimal number is read just as it is written.
use Rattle.std.proofs.Common.{◌≡◌, ℕ, zero, suc, ◌^◌, ◌<◌, ◌≤◌, ℤ, pos, negsuc, neg_ℤ, List, [], ◌∷◌, ◌++◌, length, drop, true, nat_lt, nat_le, ◌&&◌, codes, Option, Some, None, w32, FitsSigned, refl, sym, ap, ◌∙◌, subst, arith, take-append-drop}
use Rattle.std.proofs.lemmas.Bool.{and_parts, ltb-true, leb-true}
use Rattle.std.proofs.lemmas.Bool.Decides.{nat_tests}
use Rattle.std.proofs.lemmas.List.{take_at, drop_at}
use Rattle.std.proofs.lemmas.List.Folds.{length-prefix_len}
use Rattle.std.proofs.lemmas.Fmt.{decimal_is_IsNumeral}
use Rattle.std.proofs.lemmas.Slice.Eq.{bytes_eq-Decides}
use Rattle.std.proofs.lemmas.Str.Parse.{digit_from_value}
use Rattle.std.specs.Char.{is_ascii_digit}
use Rattle.std.specs.Fmt.{decimal, signed_decimal}
use Rattle.std.specs.List.{prefix_len, take_while}
use Rattle.std.specs.Str.{bytes_eq}
use Rattle.std.specs.Str.Parse.{AllDigits, digits_value}
use Rattle.wl_text.specs.Front.{◌>>=◌, behind}
use Rattle.wl_text.specs.Decimals.{word_of, number_at, negative, positive, signed_from, signed_at}
use Rattle.wl_text.proofs.FrontLaws.{if_some, then_some, behind_sound, behind_complete, behind_other}

pub number_sound : (text rest : List ℕ) (number : ℕ) → number_at text ≡ Some (number, rest) → (text ≡ decimal number ++ rest) × (number < 2 ^ 32)
unfolding number_at
number_sound text rest number told =
    let digits : List ℕ = take_while is_ascii_digit text in
    let first = then_some (word_of digits) _ (number, rest) told in
    let word = if_some (nat_lt (digits_value 10 digits) (2 ^ 32)) (digits_value 10 digits) first.0 first.1 in
    let written = if_some (bytes_eq (decimal first.0) digits) (first.0, drop (length digits) text) (number, rest) first.2 in
    let same : decimal first.0 ≡ digits = (bytes_eq-Decides (decimal first.0) digits).0 written.0 in
    let is : first.0 ≡ number = ap (λ it. it.0) written.1 in
    let behind : drop (length digits) text ≡ rest = ap (λ it. it.1) written.1 in
    let small : digits_value 10 digits < 2 ^ 32 = ltb-true _ _ word.0 in
    let long : length digits ≡ prefix_len is_ascii_digit text = length-prefix_len is_ascii_digit text in
    let parts : digits ++ drop (length digits) text ≡ text = ap (λ n. digits ++ drop n text) long ∙ take-append-drop (prefix_len is_ascii_digit text) text in
    (sym parts ∙ ap (λ it. it ++ drop (length digits) text) (sym same) ∙ ap (λ it. decimal first.0 ++ it) behind ∙ ap (λ n. decimal n ++ rest) is, omega (arith, small, word.1, is))

-- no digit at the front
abbrev pub NoDigit : List ℕ → Type 0
NoDigit text = prefix_len is_ascii_digit text ≡ 0

digits_len : (digits rest : List ℕ) → AllDigits 10 digits → NoDigit rest → prefix_len is_ascii_digit (digits ++ rest) ≡ length digits
digits_len [] rest are none = none
digits_len (byte ∷ digits) rest are none =
    let range = digit_from_value byte are.0 in
    let is : is_ascii_digit byte ≡ true = grind (arith, nat_tests) in
    let more = digits_len digits rest are.1 none in
    rw is (omega (arith, more))

digits_first : (digits rest : List ℕ) → AllDigits 10 digits → NoDigit rest → take_while is_ascii_digit (digits ++ rest) ≡ digits
digits_first digits rest are none = take_at digits rest (prefix_len is_ascii_digit (digits ++ rest)) (sym (digits_len digits rest are none))

pub number_complete : (number : ℕ) (rest : List ℕ) → number < 2 ^ 32 → NoDigit rest → number_at (decimal number ++ rest) ≡ Some (number, rest)
unfolding number_at
number_complete number rest small none =
    let numeral = decimal_is_IsNumeral number (omega arith) in
    let digits : take_while is_ascii_digit (decimal number ++ rest) ≡ decimal number = digits_first (decimal number) rest numeral.0.1 none in
    let written : bytes_eq (decimal number) (decimal number) ≡ true = (bytes_eq-Decides (decimal number) (decimal number)).1 refl in
    let fits : nat_lt number (2 ^ 32) ≡ true = grind (arith, nat_tests) in
    rw (digits, numeral.1, fits, written, drop_at (decimal number) rest (length (decimal number)) refl)

-- a number behind a sign
negative_text : (size : ℕ) → 0 < size → signed_decimal (neg_ℤ (pos size)) ≡ codes "-" ++ decimal size
negative_text zero some = absurd (omega arith)
negative_text (suc size) some = refl

negative_fits : (size : ℕ) → 0 < size → size ≤ 2 ^ 31 → FitsSigned w32 (neg_ℤ (pos size))
negative_fits zero some small = absurd (omega arith)
negative_fits (suc size) some small = record { sfits = omega arith }

-- the readers of a number behind a sign and of one without
negative_sound : (text rest : List ℕ) (number : ℤ) → (number_at text >>= negative) ≡ Some (number, rest) → (codes "-" ++ text ≡ signed_decimal number ++ rest) × FitsSigned w32 number
negative_sound text rest number told =
    let first = then_some (number_at text) negative (number, rest) told in
    let size : ℕ = first.0.0 in
    let after : List ℕ = first.0.1 in
    let chosen = if_some (nat_lt 0 size && nat_le size (2 ^ 31)) (neg_ℤ (pos size), after) (number, rest) first.2 in
    let parts = and_parts (nat_lt 0 size) (nat_le size (2 ^ 31)) chosen.0 in
    let some : 0 < size = ltb-true 0 size parts.0 in
    let small : size ≤ 2 ^ 31 = leb-true size (2 ^ 31) parts.1 in
    let is : neg_ℤ (pos size) ≡ number = ap (λ it. it.0) chosen.1 in
    let behind : after ≡ rest = ap (λ it. it.1) chosen.1 in
    let read = number_sound text after size first.1 in (
      ap (λ it. codes "-" ++ it) read.0 ∙ ap (λ it. it ++ after) (sym (negative_text size some)) ∙ ap (λ it. signed_decimal it ++ after) is ∙ ap (λ it. signed_decimal number ++ it) behind,
      subst (λ it. FitsSigned w32 it) is (negative_fits size some small),
    )

positive_sound : (text rest : List ℕ) (number : ℤ) → (number_at text >>= positive) ≡ Some (number, rest) → (text ≡ signed_decimal number ++ rest) × FitsSigned w32 number
positive_sound text rest number told =
    let first = then_some (number_at text) positive (number, rest) told in
    let size : ℕ = first.0.0 in
    let after : List ℕ = first.0.1 in
    let chosen = if_some (nat_lt size (2 ^ 31)) (pos size, after) (number, rest) first.2 in
    let small : size < 2 ^ 31 = ltb-true size (2 ^ 31) chosen.0 in
    let is : pos size ≡ number = ap (λ it. it.0) chosen.1 in
    let behind : after ≡ rest = ap (λ it. it.1) chosen.1 in
    let read = number_sound text after size first.1 in (
      read.0 ∙ ap (λ it. signed_decimal it ++ after) is ∙ ap (λ it. signed_decimal number ++ it) behind,
      subst (λ it. FitsSigned w32 it) is (record { sfits = small }),
    )

signed_parts : (sign : Option (List ℕ)) (text rest : List ℕ) (number : ℤ) → behind (codes "-") text ≡ sign → signed_from sign text ≡ Some (number, rest) → (text ≡ signed_decimal number ++ rest) × FitsSigned w32 number
signed_parts (Some after) text rest number is told =
    let read = negative_sound after rest number told in
    (behind_sound (codes "-") text after is ∙ read.0, read.1)
signed_parts None text rest number is told = positive_sound text rest number told

pub signed_sound : (text rest : List ℕ) (number : ℤ) → signed_at text ≡ Some (number, rest) → (text ≡ signed_decimal number ++ rest) × FitsSigned w32 number
unfolding signed_at
signed_sound text rest number told = signed_parts (behind (codes "-") text) text rest number refl told

unsigned_front : (digits rest : List ℕ) → AllDigits 10 digits → 0 < length digits → behind (codes "-") (digits ++ rest) ≡ None
unsigned_front [] rest are some = absurd (omega arith)
unsigned_front (byte ∷ digits) rest are some = let range = digit_from_value byte are.0 in behind_other 45 [] byte (digits ++ rest) (omega arith)

pub signed_complete : (number : ℤ) (rest : List ℕ) → FitsSigned w32 number → NoDigit rest → signed_at (signed_decimal number ++ rest) ≡ Some (number, rest)
unfolding signed_at
signed_complete (pos size) rest fits none =
    let numeral = decimal_is_IsNumeral size (omega (arith, fits.sfits)) in
    let read = number_complete size rest (omega (arith, fits.sfits)) none in
    let small : nat_lt size (2 ^ 31) ≡ true = grind (arith, nat_tests, fits.sfits) in
    rw (unsigned_front (decimal size) rest numeral.0.1 numeral.0.0, read, small)
signed_complete (negsuc size) rest fits none =
    let read = number_complete (suc size) rest (omega (arith, fits.sfits)) none in
    let small : nat_le (suc size) (2 ^ 31) ≡ true = grind (arith, nat_tests, fits.sfits) in
    let some : nat_lt 0 (suc size) ≡ true = grind (arith, nat_tests) in
    rw (behind_complete (codes "-") (decimal (suc size) ++ rest), read, some, small)
