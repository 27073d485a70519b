-- Two lower-case digits are one byte.
use Rattle.std.proofs.Common.{◌≡◌, ℕ, ◌+◌, ◌*◌, ◌%◌, ◌==◌, ◌<◌, ◌≤◌, Bool, true, false, ◌&&◌, List, [], ◌∷◌, length, drop, get_or, Some, Ok, ◌-◌, nat_le, suc, zero, if◌then◌else◌, refl, sym, ap, ◌∙◌, subst, arith, ⊎_elim}
use Rattle.std.specs.List.{list_all}
use Rattle.std.proofs.lemmas.Bool.{cases_Bool, and_parts, eqb-true}
use Rattle.std.proofs.lemmas.Bool.Decides.{nat_tests}
use Rattle.hex.specs.Hex.{hex_digit_value, pair_value, decode_pairs}
use Rattle.hex.proofs.Pairs.{drop-pair}
use Rattle.script_lang.specs.Digits.{number_of, are_numbers}
use Rattle.script_lang.specs.Kinds.{is_lower_digit, decoded}

-- a number below 256 is made of two digits
pub both_digits : (high low upper lower : ℕ) → (is_lower_digit high ≡ false → upper ≡ 256) → (is_lower_digit low ≡ false → lower ≡ 256)
    → 16 * upper + lower ≤ 255 → (is_lower_digit high ≡ true) × (is_lower_digit low ≡ true)
both_digits high low upper lower first second small = (
  ⊎_elim (λ yes. yes) (λ no. absurd (omega (arith, first no))) (cases_Bool (is_lower_digit high)),
  ⊎_elim (λ yes. yes) (λ no. absurd (omega (arith, second no))) (cases_Bool (is_lower_digit low)),
)

-- which is the byte that they stand for
pub pair_digits : (high low at upper lower : ℕ) → hex_digit_value high ≡ Some upper → hex_digit_value low ≡ Some lower
    → pair_value high low at ≡ Ok (16 * upper + lower)
pair_digits high low at upper lower first second =
    let same : upper * 16 + lower ≡ 16 * upper + lower = omega arith in
    rw (first, second) (ap Ok same)

-- digits of which the first two are such are all such if the others are
pub pair_left : (digits : List ℕ) (i : ℕ) → 2 * i + 1 < length digits
    → is_lower_digit (get_or digits (2 * i) 0) ≡ true → is_lower_digit (get_or digits (2 * i + 1) 0) ≡ true
    → list_all is_lower_digit (drop (2 * i) digits) ≡ list_all is_lower_digit (drop (2 * (i + 1)) digits)
pair_left digits i fits high low = ap (list_all is_lower_digit) (drop-pair digits i fits) ∙ rw (high, low) refl

-- what an even count of digits stands for
pub pairs_decoded : (digits bytes : List ℕ) → length digits ≡ 2 * length bytes → decode_pairs 0 digits ≡ Ok bytes → bytes ≡ decoded digits
pairs_decoded digits bytes twice read =
    let even : (length digits % 2 == 1) ≡ false = grind (arith, nat_tests) in
    rw (even, read) refl

number_from : (first i : ℕ) (table : List ℕ) → are_numbers first table ≡ true → i < length table → get_or table i 0 ≡ number_of (first + i)
number_from first i [] told inside = absurd (omega arith)
number_from first zero (number ∷ table) told inside =
    let same : first ≡ first + 0 = omega arith in
    eqb-true number (number_of first) (and_parts (number == number_of first) (are_numbers (first + 1) table) told).0 ∙ ap number_of same
number_from first (suc i) (number ∷ table) told inside =
    let same : first + 1 + i ≡ first + suc i = omega arith in
    number_from (first + 1) i table (and_parts (number == number_of first) (are_numbers (first + 1) table) told).1 (omega arith) ∙ ap number_of same

-- what such a table says of a byte
pub record IsNumber (byte number : ℕ) : Type 0 where
  pub digit : is_lower_digit byte ≡ true → (hex_digit_value byte ≡ Some number) × (number < 16)
  pub other : is_lower_digit byte ≡ false → number ≡ 256
  pub small : number ≤ 256

digit_value : (byte : ℕ) → is_lower_digit byte ≡ true → hex_digit_value byte ≡ Some (number_of byte)
digit_value byte is = grind (arith, nat_tests)

digit_small : (byte : ℕ) → is_lower_digit byte ≡ true → number_of byte < 16
digit_small byte is = grind (arith, nat_tests)

no_digit : (byte : ℕ) → is_lower_digit byte ≡ false → number_of byte ≡ 256
no_digit byte other = grind (arith, nat_tests)

never_more : (byte : ℕ) → byte < 256 → number_of byte ≤ 256
never_more byte small = grind (arith, nat_tests)

is_number_of : (byte : ℕ) → byte < 256 → IsNumber byte (number_of byte)
is_number_of byte small = record { digit = λ is. (digit_value byte is, digit_small byte is); other = no_digit byte; small = never_more byte small }

pub number_at : (table : List ℕ) (byte : ℕ) → are_numbers 0 table ≡ true → length table ≡ 256 → byte < 256 → IsNumber byte (get_or table byte 0)
number_at table byte told all small =
    let zero_first : 0 + byte ≡ byte = omega arith in
    subst (IsNumber byte) (sym (number_from 0 byte table told (omega arith) ∙ ap number_of zero_first)) (is_number_of byte small)
