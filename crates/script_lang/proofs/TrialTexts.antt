-- Texts of decimal numbers in the lines and fields of a script.
use Rattle.std.proofs.Common.{◌≡◌, ℕ, zero, suc, ◌+◌, ◌-◌, ◌*◌, ◌^◌, ◌<◌, ◌≤◌, Bool, true, false, not, ◌&&◌, cond, nat_le, ◌==◌, List, [], ◌∷◌, ◌++◌, length, get_or, refl, sym, ap, ◌∙◌, arith}
use Rattle.std.proofs.lemmas.Bool.{and_parts}
use Rattle.std.proofs.lemmas.Bool.Decides.{nat_tests}
use Rattle.std.proofs.lemmas.Fmt.{decimal_is_IsNumeral, length-decimal-le_succ, digits_value-decimal, first_decimal}
use Rattle.std.proofs.lemmas.Str.Parse.{digit_from_value, tells_digits, FoldsDigits, numerals_by_fold}
use Rattle.std.specs.Fmt.{decimal}
use Rattle.std.specs.List.{list_all}
use Rattle.std.specs.Str.Parse.{AllDigits}
use Rattle.wl_text.proofs.FrontLaws.{lacks}
use Rattle.wl_text.specs.Enclosed.{is_shown}
use Rattle.script_lang.specs.Numbers.{is_decimal_digit, is_number, value_after, number_value}
use Rattle.script_lang.specs.Pieces.{lines, fields, onto_first}
use Rattle.script_lang.specs.Trial.{state_after, round, rounds}

-- ---- tests of all bytes

pub all_append : (P : ℕ → Bool) (xs ys : List ℕ) → list_all P xs ≡ true → list_all P ys ≡ true → list_all P (xs ++ ys) ≡ true
all_append P [] ys first last = last
all_append P (x ∷ xs) ys first last =
    let parts = and_parts (P x) (list_all P xs) first in
    let more = all_append P xs ys parts.1 last in
    rw (parts.0, more) refl

-- a test that all digits pass
abbrev pub PassDigits : (ℕ → Bool) → Type 0
PassDigits P = (byte : ℕ) → 48 ≤ byte → byte ≤ 57 → P byte ≡ true

pub digits_pass : (P : ℕ → Bool) (digits : List ℕ) → PassDigits P → AllDigits 10 digits → list_all P digits ≡ true
digits_pass P [] pass are = refl
digits_pass P (byte ∷ digits) pass are =
    let range = digit_from_value byte are.0 in
    let one = pass byte (omega (arith, range)) (omega (arith, range)) in
    let more = digits_pass P digits pass are.1 in
    rw (one, more) refl

pub decimal_passes : (P : ℕ → Bool) (n : ℕ) → PassDigits P → n < 2 ^ 64 → list_all P (decimal n) ≡ true
decimal_passes P n pass small = digits_pass P (decimal n) pass (decimal_is_IsNumeral n small).0.1

pub shown_digits : PassDigits is_shown
shown_digits byte low high = grind (arith, nat_tests)

pub decimal_shown : (n : ℕ) → n < 2 ^ 64 → list_all is_shown (decimal n) ≡ true
decimal_shown n small = decimal_passes is_shown n shown_digits small

-- digits are neither spaces nor line feeds
pub other_digits : (stop : ℕ) → stop < 48 → PassDigits (λ byte. not (byte == stop))
other_digits stop low byte least most = grind (arith, nat_tests)

pub decimal_lacks : (stop n : ℕ) → stop < 48 → n < 2 ^ 64 → lacks stop (decimal n) ≡ true
decimal_lacks stop n low small = decimal_passes (λ byte. not (byte == stop)) n (other_digits stop low) small

-- ---- numbers

decimal_digits : PassDigits is_decimal_digit
decimal_digits byte low high = grind (arith, nat_tests)

numeral_form : (digits : List ℕ) → list_all is_decimal_digit digits ≡ true → 0 < length digits → 48 < get_or digits 0 0 → is_number digits ≡ true
numeral_form [] all some first = absurd (omega arith)
numeral_form (digit ∷ []) all some first = (and_parts (is_decimal_digit digit) true all).0
numeral_form (digit ∷ next ∷ digits) all some first =
    let other : (digit == 48) ≡ false = grind (arith, nat_tests) in
    rw (other, all) refl

digit_form : (digits : List ℕ) → list_all is_decimal_digit digits ≡ true → 0 < length digits → length digits ≤ 1 → is_number digits ≡ true
digit_form [] all some few = absurd (omega arith)
digit_form (digit ∷ []) all some few = (and_parts (is_decimal_digit digit) true all).0
digit_form (digit ∷ next ∷ digits) all some few = absurd (omega (arith, few))

-- what is written of a number has the form of a number, and stands for it
pub decimal_form : (n : ℕ) → n < 2 ^ 64 → is_number (decimal n) ≡ true
decimal_form zero small =
    let numeral = decimal_is_IsNumeral zero small in
    digit_form (decimal zero) (decimal_passes is_decimal_digit zero decimal_digits small) numeral.0.0 (length-decimal-le_succ zero small)
decimal_form (suc n) small =
    let numeral = decimal_is_IsNumeral (suc n) small in
    numeral_form (decimal (suc n)) (decimal_passes is_decimal_digit (suc n) decimal_digits small) numeral.0.0 (first_decimal (suc n) (omega arith) small)

folds : FoldsDigits value_after
folds = record { empty = λ n. refl; more = λ n digit digits range. ap (λ it. value_after it digits) (omega arith) }

pub decimal_value : (n : ℕ) → n < 2 ^ 64 → number_value (decimal n) ≡ n
decimal_value n small = digits_value-decimal (numerals_by_fold (AllDigits 10) tells_digits value_after folds) n small

-- ---- lines and fields

pub lines_line : (line rest : List ℕ) → lacks 10 line ≡ true → lines (line ++ (10 ∷ rest)) ≡ line ∷ lines rest
lines_line [] rest none = refl
lines_line (byte ∷ line) rest none =
    let parts = and_parts (not (byte == 10)) (lacks 10 line) none in
    let other : (byte == 10) ≡ false = grind (arith, nat_tests) in
    rw other (ap (onto_first byte) (lines_line line rest parts.1))

pub fields_field : (field rest : List ℕ) → lacks 32 field ≡ true → fields (field ++ (32 ∷ rest)) ≡ field ∷ fields rest
fields_field [] rest none = refl
fields_field (byte ∷ field) rest none =
    let parts = and_parts (not (byte == 32)) (lacks 32 field) none in
    let other : (byte == 32) ≡ false = grind (arith, nat_tests) in
    rw other (ap (onto_first byte) (fields_field field rest parts.1))

pub fields_last : (field : List ℕ) → lacks 32 field ≡ true → fields field ≡ field ∷ []
fields_last [] none = refl
fields_last (byte ∷ field) none =
    let parts = and_parts (not (byte == 32)) (lacks 32 field) none in
    let other : (byte == 32) ≡ false = grind (arith, nat_tests) in
    rw other (ap (onto_first byte) (fields_last field parts.1))

-- ---- rounds that are left

pub rounds_left : (count done state : ℕ) → done < count → rounds (count - done) state ≡ round state ++ rounds (count - (done + 1)) (state_after 8 state)
rounds_left count done state low =
    let more : count - done ≡ suc (count - (done + 1)) = omega arith in
    ap (λ n. rounds n state) more
