-- The numbers in a frame: little-endian words of 32 and of 64 bits, and signed ones, as in the wire
-- format of the Wayland protocol.
use Rattle.std.specs.Prelude.{◌≢◌, ℕ, ◌^◌, ◌<◌, ℤ, pos, List, [], ◌∷◌, slice_index}
use Rattle.std.specs.Int.{w32, w64, to_le_bytes, from_le_bytes, cast_signed, cast_unsigned}
use Rattle.std.specs.Prelude.{FitsSigned}

-- the four bytes of a word, and the word that stands at the front of bytes
unfoldable pub word_bytes : ℕ → List ℕ
word_bytes n = to_le_bytes w32 n

unfoldable pub word_of : List ℕ → ℕ
word_of bytes = from_le_bytes w32 bytes

-- eight bytes, and the number that stands in the first eight
unfoldable pub long_bytes : ℕ → List ℕ
long_bytes n = to_le_bytes w64 n

unfoldable pub long_of : List ℕ → ℕ
long_of bytes = from_le_bytes w64 bytes

-- a signed word, in two's complement
unfoldable pub rid_bytes : ℤ → List ℕ
rid_bytes z = word_bytes (cast_unsigned w32 z)

unfoldable pub rid_of : List ℕ → ℤ
rid_of bytes = cast_signed w32 (word_of bytes)

-- each four bytes as a word, from the front; fewer than four at the end are none
abbrev pub words_of : List ℕ → List ℕ
words_of (a ∷ b ∷ c ∷ d ∷ rest) = word_of (a ∷ b ∷ c ∷ d ∷ []) ∷ words_of rest
words_of bytes = []

-- what fits a word, eight bytes, and the number of a handle, which is never 0
abbrev pub IsWord : ℕ → Type 0
IsWord n = n < 2 ^ 32

abbrev pub IsLong : ℕ → Type 0
IsLong n = n < 2 ^ 64

abbrev pub IsRid : ℤ → Type 0
IsRid z = (z ≢ pos 0) × FitsSigned w32 z

-- each item is a byte
abbrev pub IsBytes : List ℕ → Type 0
IsBytes bytes = (i : ℕ) → slice_index bytes i < 256
