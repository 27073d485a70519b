-- The numbers of hexadecimal digits in lower case, as a table that is indexed by bytes has them;
-- digits are hexadecimal as everywhere, the table is this project's own.
use Rattle.std.specs.Prelude.{ℕ, ◌+◌, ◌-◌, Bool, true, ◌&&◌, List, [], ◌∷◌, nat_le, ◌==◌}
use Rattle.std.specs.Prelude.{if◌then◌else◌}

-- the number of a digit, 0 to 9 and a to f, and 256 of a byte that is none
abbrev pub number_of : ℕ → ℕ
number_of byte =
    if nat_le 48 byte && nat_le byte 57 then byte - 48
    else (if nat_le 97 byte && nat_le byte 102 then byte - 87
    else 256)

-- these are the numbers of the bytes from this one on
abbrev pub are_numbers : ℕ → List ℕ → Bool
are_numbers first [] = true
are_numbers first (number ∷ table) = (number == number_of first) && are_numbers (first + 1) table
