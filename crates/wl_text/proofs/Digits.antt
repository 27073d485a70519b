-- Digits and the number that they write.
use Rattle.std.proofs.Common.{◌≡◌, ℕ, ◌+◌, ◌*◌, ◌^◌, ◌<◌, ◌≤◌, List, [], ◌∷◌, take, true, false, Bool, Some, None, cond, refl, sym, subst, arith, leb-true}
use Rattle.std.proofs.lemmas.Bool.Decides.{nat_tests}
use Rattle.std.proofs.lemmas.Bool.{and_parts}
use Rattle.std.proofs.lemmas.List.Sums.{take_while-cons}
use Rattle.std.proofs.lemmas.Str.{digit_value_digit}
use Rattle.std.specs.Char.{digit_value, is_ascii_digit}
use Rattle.std.specs.List.{prefix_len, take_while}
use Rattle.std.specs.Str.Parse.{AllDigits, digits_value, digits_value_after}
use Rattle.wl_text.specs.Decimals.{word_of}

-- more digits make no smaller number
pub value_grows : (number : ℕ) (digits : List ℕ) → number ≤ digits_value_after 10 number digits
value_grows number [] = omega arith
value_grows number (digit ∷ digits) = let later = value_grows (number * 10 + digit_value digit) digits in omega (arith, later)

-- a number of more than 32 bits is none
pub word_of_large : (digits : List ℕ) → 2 ^ 32 ≤ digits_value 10 digits → None ≡ word_of digits
word_of_large digits large = grind (arith, nat_tests)

pub word_of_small : (digits : List ℕ) (number : ℕ) → digits_value 10 digits ≡ number → number < 2 ^ 32 → Some number ≡ word_of digits
word_of_small digits number is small = grind (arith, nat_tests)

digit_small : (byte : ℕ) → is_ascii_digit byte ≡ true → digit_value byte < 10
digit_small byte is =
    let parts = and_parts _ _ is in
    let low = leb-true _ _ parts.0 in
    let high = leb-true _ _ parts.1 in
    let value = digit_value_digit byte (low, high) in
    omega (arith, value)

front_chosen : (test : Bool) (byte : ℕ) (more : List ℕ) → is_ascii_digit byte ≡ test → AllDigits 10 more → AllDigits 10 (cond test (byte ∷ more) [])
front_chosen true byte more is digits = (digit_small byte is, digits)
front_chosen false byte more is digits = tt

-- the digits at the front are digits
pub front_digits : (text : List ℕ) → AllDigits 10 (take (prefix_len is_ascii_digit text) text)
front_digits [] = tt
front_digits (byte ∷ text) =
    subst (AllDigits 10) (sym (take_while-cons is_ascii_digit byte text))
    (front_chosen (is_ascii_digit byte) byte (take_while is_ascii_digit text) refl (front_digits text))
