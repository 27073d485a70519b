-- Bytes in a text: those of a string between quotes, with escapes as C has them, and those of an
-- array between brackets in lower-case hexadecimal; the forms are this project's own.
use Rattle.std.specs.Prelude.{ℕ, zero, suc, ◌+◌, ◌-◌, ◌*◌, ◌/◌, ◌%◌, List, [], ◌∷◌, ◌++◌, length}
use Rattle.std.specs.Prelude.{Bool, not, ◌==◌, ◌&&◌, ◌||◌, nat_lt, nat_le, if◌then◌else◌, Option}
use Rattle.std.specs.Prelude.{Some, None, option_map}
use Rattle.std.specs.List.{flat_map}
use Rattle.wl_text.specs.declared.enclosed.Enclosure.{Enclosure}
use Rattle.wl_text.specs.declared.enclosed.Enclosure.TheVariants.{Quotes, Brackets}
use Rattle.wl_text.specs.Front.{Read, ◌>>=◌, behind}

-- the digit of a number below 16
abbrev pub digit : ℕ → ℕ
digit number = if nat_lt number 10 then 48 + number else 87 + number

-- the number of a digit
abbrev pub digit_number : ℕ → Option ℕ
digit_number byte =
    if nat_le 48 byte && nat_le byte 57 then Some (byte - 48)
    else (if nat_le 97 byte && nat_le byte 102 then Some (byte - 87)
    else None)

-- two digits, the high one first
abbrev pub two_digits : ℕ → List ℕ
two_digits byte = digit (byte / 16) ∷ digit (byte % 16) ∷ []

-- the byte of two digits
abbrev pub two_digits_at : List ℕ → Read ℕ
two_digits_at [] = None
two_digits_at (high ∷ []) = None
two_digits_at (high ∷ low ∷ rest) = do
  upper ← digit_number high
  lower ← digit_number low
  Some (16 * upper + lower, rest)

-- `"`
abbrev pub quote : ℕ
quote = 34

-- `\`
abbrev pub backslash : ℕ
backslash = 92

-- the letter x, which stands before the two digits of a byte
abbrev pub letter_x : ℕ
letter_x = 120

-- a byte of a string that stands for itself behind a backslash
abbrev pub is_marked : ℕ → Bool
is_marked byte = byte == quote || byte == backslash

-- a visible byte or a space
abbrev pub is_shown : ℕ → Bool
is_shown byte = nat_le 32 byte && nat_le byte 126

-- how a byte of a string is written
abbrev pub byte_text : ℕ → List ℕ
byte_text byte =
    if is_marked byte then backslash ∷ byte ∷ []
    else (if is_shown byte then byte ∷ []
    else backslash ∷ letter_x ∷ two_digits byte)

-- a byte that was read from two digits, which one that is shown is not written with
abbrev pub hidden : ℕ × List ℕ → Read ℕ
hidden (byte, rest) = if is_shown byte then None else Some (byte, rest)

-- what stands behind a backslash
abbrev pub escape_at : List ℕ → Read ℕ
escape_at [] = None
escape_at (first ∷ rest) =
    if is_marked first then Some (first, rest)
    else (if first == letter_x then two_digits_at rest >>= hidden
    else None)

-- a byte of a string
abbrev pub byte_at : List ℕ → Read ℕ
byte_at [] = None
byte_at (first ∷ rest) =
    if first == backslash then escape_at rest
    else (if is_shown first && not (first == quote) then Some (first, rest)
    else None)

-- the byte before the first
abbrev pub opening : Enclosure → ℕ
opening Quotes = quote
opening Brackets = 91

-- the byte behind the last
abbrev pub closing : Enclosure → ℕ
closing Quotes = quote
closing Brackets = 93

-- how one byte between them is written
abbrev pub item_text : Enclosure → ℕ → List ℕ
item_text Quotes byte = byte_text byte
item_text Brackets byte = two_digits byte

-- one byte between them
abbrev pub item_at : Enclosure → List ℕ → Read ℕ
item_at Quotes text = byte_at text
item_at Brackets text = two_digits_at text

-- all bytes with what is around them
abbrev pub enclosed_text : Enclosure → List ℕ → List ℕ
enclosed_text kind bytes = opening kind ∷ (flat_map (item_text kind) bytes ++ closing kind ∷ [])

-- nothing more where the closing byte stood at the front, else what follows
abbrev pub closed_or : Option (List ℕ) → Read (List ℕ) → Read (List ℕ)
closed_or (Some rest) more = Some ([], rest)
closed_or None more = more

-- a byte before those that follow
abbrev pub with_byte : ℕ → Read (List ℕ) → Read (List ℕ)
with_byte byte more = option_map (λ it. (byte ∷ it.0, it.1)) more

-- the bytes up to the closing one, which are fewer than so many
unfoldable pub items_within : Enclosure → ℕ → List ℕ → Read (List ℕ)
items_within kind zero text = None
items_within kind (suc most) text =
    closed_or (behind (closing kind ∷ []) text)
    (item_at kind text >>= (λ one. with_byte one.0 (items_within kind most one.1)))

-- the bytes up to the closing one
abbrev pub items_at : Enclosure → List ℕ → Read (List ℕ)
items_at kind text = items_within kind (length text) text

-- bytes with what is around them
unfoldable pub enclosed_at : Enclosure → List ℕ → Read (List ℕ)
enclosed_at kind text = behind (opening kind ∷ []) text >>= items_at kind
