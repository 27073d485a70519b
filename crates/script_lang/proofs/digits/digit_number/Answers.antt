use Rattle.std.proofs.Common.{◌≡◌, ℕ, ◌<◌, get_or, length, subst, arith}
use Rattle.script_lang.proofs.DigitLemmas.{IsNumber, number_at}
use Rattle.script_lang.proofs.digits.digit_number.Goals as goal

pub returns : goal.returns
returns c =
    let table = c.numbers.result.now in
    let all : length table ≡ 256 = omega arith in
    let small : c.from.result < 256 = omega arith in
    let is = number_at table c.from.result c.numbers.ensures all small in
    let P : ℕ → Type 0 = λ byte. IsNumber byte (get_or table c.from.result 0) in
    let number = subst P c.from.ensures is in
    record { digit = number.digit; other = number.other; small = number.small }
