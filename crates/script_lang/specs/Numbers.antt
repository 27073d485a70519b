-- Numbers as scripts write them, in decimal and without leading zeros; the language is this
-- project's own.
use Rattle.std.specs.Prelude.{ℕ, ◌+◌, ◌-◌, ◌*◌, ℤ, pos, neg_ℤ, Bool, false, ◌&&◌, List, [], ◌∷◌}
use Rattle.std.specs.Prelude.{if◌then◌else◌, nat_le, ◌==◌, not}
use Rattle.std.specs.List.{list_all}

abbrev pub is_decimal_digit : ℕ → Bool
is_decimal_digit byte = nat_le 48 byte && nat_le byte 57

-- digits alone, at least one, and no 0 in front of others
abbrev pub is_number : List ℕ → Bool
is_number [] = false
is_number (digit ∷ []) = is_decimal_digit digit
is_number (digit ∷ next ∷ digits) =
    not (digit == 48) && list_all is_decimal_digit (digit ∷ next ∷ digits)

-- the number that digits stand for behind those that stand for n
abbrev pub value_after : ℕ → List ℕ → ℕ
value_after n [] = n
value_after n (digit ∷ digits) = value_after (10 * n + (digit - 48)) digits

-- the number that digits stand for
abbrev pub number_value : List ℕ → ℕ
number_value digits = value_after 0 digits

-- a minus sign stands in front
abbrev pub is_negative : List ℕ → Bool
is_negative [] = false
is_negative (byte ∷ bytes) = byte == 45

-- what stands behind the sign, if there is one
abbrev pub unsigned : List ℕ → List ℕ
unsigned [] = []
unsigned (byte ∷ bytes) = if byte == 45 then bytes else byte ∷ bytes

-- a lone 0
abbrev pub is_zero : List ℕ → Bool
is_zero [] = false
is_zero (digit ∷ []) = digit == 48
is_zero (digit ∷ next ∷ digits) = false

-- a number, which may have a minus sign unless it is 0
abbrev pub is_signed : List ℕ → Bool
is_signed field = is_number (unsigned field) && not (is_negative field && is_zero (unsigned field))

abbrev pub signed_value : List ℕ → ℤ
signed_value field =
    if is_negative field then neg_ℤ (pos (number_value (unsigned field)))
    else pos (number_value (unsigned field))
