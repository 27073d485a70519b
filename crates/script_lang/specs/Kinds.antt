-- The kinds of field that stand in the lines of a script: their form, their range and what they
-- stand for. The language is this project's own; digits of bytes are hexadecimal as everywhere.
use Rattle.std.specs.Prelude.{ℕ, ◌%◌, ℤ, Bool, true, ◌&&◌, ◌||◌, List, [], Option, Some, None}
use Rattle.std.specs.Prelude.{if◌then◌else◌, nat_le, ◌==◌, length, codes, slice_index, not}
use Rattle.std.specs.List.{list_all}
use Rattle.std.specs.Result.{result_unwrap_or}
use Rattle.std.specs.Str.{bytes_eq}
use Rattle.hex.specs.Hex.{decode_of}
use Rattle.wp_outside.specs.declared.kinds.Direction.{Direction}
use Rattle.wp_outside.specs.declared.kinds.Direction.TheVariants.{Up, Down}
use Rattle.wp_outside.specs.declared.kinds.Side.{Side}
use Rattle.wp_outside.specs.declared.kinds.Side.TheVariants.{Near, Far}
use Rattle.script_lang.specs.Numbers.{is_number, number_value, is_negative, unsigned, is_signed}
use Rattle.script_lang.specs.declared.limits.TheConstants.{LARGEST_FILE}
use Rattle.script_lang.specs.Numbers.{signed_value}

-- A kind of field: whether a field has its form, whether its value is in range, and the value.
pub record Kind (A : Type 0) : Type 0 where
  pub form : List ℕ → Bool
  pub range : List ℕ → Bool
  pub value : List ℕ → A

-- the value, where the form is right
abbrev pub if_formed : {A : Type 0} → Bool → A → Option A
if_formed form value = if form then Some value else None

-- the value of a field that has the form
abbrev pub formed : {A : Type 0} → Kind A → List ℕ → Option A
formed kind field = if_formed (kind.form field) (kind.value field)

abbrev pub between : ℕ → ℕ → ℕ → Bool
between low high n = nat_le low n && nat_le n high

-- a number from the one to the other
abbrev pub number : ℕ → ℕ → Kind ℕ
number low high = record {
  form = is_number;
  range = λ field. between low high (number_value field);
  value = number_value;
}

-- a count, of bytes mostly
abbrev pub count : Kind ℕ
count = number 1 1000000000

-- a place, from 0
abbrev pub place : Kind ℕ
place = number 0 1000000000

-- any unsigned number of 64 bits
abbrev pub word : Kind ℕ
word = number 0 18446744073709551615

-- the size of a file: whole blocks of 64 bytes
abbrev pub size : Kind ℕ
size = record {
  form = is_number;
  range = λ field. between 64 LARGEST_FILE (number_value field) && (number_value field % 64 == 0);
  value = number_value;
}

-- the number of a handle that was received: any but 0 whose opposite fits 32 bits too
abbrev pub received : Kind ℤ
received = record {
  form = is_signed;
  range = λ field. between 1 2147483647 (number_value (unsigned field));
  value = signed_value;
}

-- the application's handles have no sign, those of the compositor have one
abbrev pub has_sign_of : Side → List ℕ → Bool
has_sign_of Near field = not (is_negative field)
has_sign_of Far field = is_negative field

-- the number of a peer's own handle
abbrev pub own : Side → Kind ℤ
own peer = record {
  form = is_signed;
  range = λ field. has_sign_of peer field && received.range field;
  value = signed_value;
}

-- the digits 0 to 9 and a to f
abbrev pub is_lower_digit : ℕ → Bool
is_lower_digit byte = (nat_le 48 byte && nat_le byte 57) || (nat_le 97 byte && nat_le byte 102)

-- an even count of digits
abbrev pub is_hex : List ℕ → Bool
is_hex field = (length field % 2 == 0) && list_all is_lower_digit field

-- the bytes that digits stand for
abbrev pub decoded : List ℕ → List ℕ
decoded field = result_unwrap_or (decode_of field) []

-- bytes, of 2 to 131,072 digits
abbrev pub bytes : Kind (List ℕ)
bytes = record {
  form = λ field. between 2 131072 (length field) && is_hex field;
  range = λ field. true;
  value = decoded;
}

-- one byte, of two digits
abbrev pub byte : Kind ℕ
byte = record {
  form = λ field. (length field == 2) && is_hex field;
  range = λ field. true;
  value = λ field. slice_index (decoded field) 0;
}

-- the application or the compositor
abbrev pub who : Kind Side
who = record {
  form = λ field. bytes_eq field (codes "app") || bytes_eq field (codes "comp");
  range = λ field. true;
  value = λ field. if bytes_eq field (codes "app") then Near else Far;
}

-- the way of bytes through the link
abbrev pub direction : Kind Direction
direction = record {
  form = λ field. bytes_eq field (codes "up") || bytes_eq field (codes "down");
  range = λ field. true;
  value = λ field. if bytes_eq field (codes "up") then Up else Down;
}
