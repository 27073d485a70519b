-- Reading a text from its front: each reader gives a value and the text behind it, or nothing where
-- the front is none of its texts; this project's own words.
use Rattle.std.specs.Prelude.{ℕ, ◌+◌, List, length, take, drop, Option, Some, None, option_and_then}
use Rattle.std.specs.Prelude.{option_map, position, ◌==◌, if◌then◌else◌}
use Rattle.std.specs.Str.{bytes_eq}
use Rattle.std.specs.Borrow.{Bor}

-- what was read and the text behind it
abbrev pub Read : Type 0 → Type 0
Read X = Option (X × List ℕ)

infixl 10 ◌>>=◌
abbrev pub ◌>>=◌ : {X Y : Type 0} → Option X → (X → Option Y) → Option Y
read >>= next = option_and_then next read

-- what a function read from a slice
abbrev pub read_view : {X : Type 0} → Option (X × Bor (List ℕ)) → Read X
read_view read = option_map (λ it. (it.0, it.1.now)) read

-- the text behind a word that stands at the front
unfoldable pub behind : List ℕ → List ℕ → Option (List ℕ)
behind word text =
    if bytes_eq (take (length word) text) word then Some (drop (length word) text) else None

-- the bytes before the first that is like this one, and the text behind that one
abbrev pub split_before : ℕ → List ℕ → Read (List ℕ)
split_before stop text =
    option_map (λ at. (take at text, drop (at + 1) text)) (position (λ byte. byte == stop) text)
