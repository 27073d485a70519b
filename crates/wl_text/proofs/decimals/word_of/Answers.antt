use Rattle.std.proofs.Common.{◌≡◌, ℕ, ◌+◌, ◌*◌, ◌^◌, ◌<◌, ◌≤◌, List, ◌∷◌, subst, length, drop, get_or, None, ap, ◌∙◌, arith}
use Rattle.std.proofs.lemmas.List.{at_drop_more, drop_more, drop_all}
use Rattle.std.proofs.lemmas.Str.{digit_value_digit}
use Rattle.std.proofs.lemmas.Str.Parse.{digit_from_value}
use Rattle.std.specs.Char.{digit_value}
use Rattle.std.specs.Str.Parse.{AllDigits, digits_value, digits_value_after}
use Rattle.wl_text.specs.Decimals.{word_of}
use Rattle.wl_text.proofs.Digits.{value_grows, word_of_large, word_of_small}
use Rattle.wl_text.proofs.decimals.word_of.Goals as goal

-- with one digit more than 32 bits hold, the number is larger still
large : (digits : List ℕ) (word i : ℕ) → i < length digits → digits_value 10 digits ≡ digits_value_after 10 word (drop i digits) → 2 ^ 32 ≤ word * 10 + digit_value (get_or digits i 0) → None ≡ word_of digits
large digits word i inside complete over =
    let next = at_drop_more (digits_value_after 10 word) digits i 0 inside in
    let grows = value_grows (word * 10 + digit_value (get_or digits i 0)) (drop (i + 1) digits) in
    word_of_large digits (omega (arith, complete, next, grows))

pub returns-in_err-checked_mul : goal.returns-in_err-checked_mul
returns-in_err-checked_mul c =
    let over : 2 ^ 32 ≤ c.digits.word * 10 = omega (arith, c.in_err-checked_mul.ensures) in
    c.from_residual.ensures ∙ large c.args.digits.now c.digits.word c.digits.digit-index (omega arith) c.digits.invariant.complete (omega (arith, over))

pub returns-in_err-word : goal.returns-in_err-word
returns-in_err-word c =
    let inside : c.digits.digit-index < length c.args.digits.now = omega arith in
    let next = drop_more c.args.digits.now c.digits.digit-index 0 inside in
    let is : AllDigits 10 (get_or c.args.digits.now c.digits.digit-index 0 ∷ drop (c.digits.digit-index + 1) c.args.digits.now) = subst (AllDigits 10) next c.digits.invariant.digits in
    let value = digit_value_digit (get_or c.args.digits.now c.digits.digit-index 0) (digit_from_value _ is.0) in
    c.from_residual-in_err-word.ensures
    ∙ large c.args.digits.now c.digits.word c.digits.digit-index inside c.digits.invariant.complete (omega (arith, c.in_err-word.ensures, value))

pub returns : goal.returns
returns c =
    let behind = drop_all c.digits.digit-index c.args.digits.now (omega arith) in
    word_of_small c.args.digits.now c.digits.word (c.digits.invariant.complete ∙ ap (digits_value_after 10 c.digits.word) behind) c.digits.invariant.small
