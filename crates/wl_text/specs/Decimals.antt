-- Decimal numbers at the front of a text, as they are written: without leading zeros, and with a
-- sign before a negative one alone; this project's own words over what Rust's formatting writes.
use Rattle.std.specs.Prelude.{ℕ, ◌^◌, ℤ, pos, neg_ℤ, List, length, drop, take_while, codes, decimal}
use Rattle.std.specs.Prelude.{◌&&◌, nat_lt, nat_le, if◌then◌else◌, Option, Some, None}
use Rattle.std.specs.Char.{is_ascii_digit}
use Rattle.std.specs.Str.{bytes_eq}
use Rattle.std.specs.Str.Parse.{digits_value}
use Rattle.wl_text.specs.Front.{Read, ◌>>=◌, behind}

-- the number of these digits, if it has 32 bits
abbrev pub word_of : List ℕ → Option ℕ
word_of digits =
    if nat_lt (digits_value 10 digits) (2 ^ 32) then Some (digits_value 10 digits) else None

-- an unsigned number of 32 bits: the digits at the front are all of them, and they are what is
-- written of it
unfoldable pub number_at : List ℕ → Read ℕ
number_at text =
    let digits = take_while is_ascii_digit text in
    word_of digits >>= (λ number. if bytes_eq (decimal number) digits
    then Some (number, drop (length digits) text) else None)

-- behind a sign: 1 to 2,147,483,648
abbrev pub negative : ℕ × List ℕ → Read ℤ
negative (size, rest) =
    if nat_lt 0 size && nat_le size (2 ^ 31) then Some (neg_ℤ (pos size), rest) else None

-- without one: 0 to 2,147,483,647
abbrev pub positive : ℕ × List ℕ → Read ℤ
positive (size, rest) = if nat_lt size (2 ^ 31) then Some (pos size, rest) else None

-- a number with the text behind a sign, if one stands there
abbrev pub signed_from : Option (List ℕ) → List ℕ → Read ℤ
signed_from (Some rest) text = number_at rest >>= negative
signed_from None text = number_at text >>= positive

-- a signed number of 32 bits
unfoldable pub signed_at : List ℕ → Read ℤ
signed_at text = signed_from (behind (codes "-") text) text
