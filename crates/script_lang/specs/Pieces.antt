-- A script cut into lines at its line feeds, and a line cut into fields at its spaces; the language
-- is this project's own.
use Rattle.std.specs.Prelude.{ℕ, List, [], ◌∷◌, Option, Some, None, if◌then◌else◌, ◌==◌}

-- what stands before the first separator
abbrev pub front : ℕ → List ℕ → List ℕ
front separator [] = []
front separator (byte ∷ bytes) = if byte == separator then [] else byte ∷ front separator bytes

-- what stands behind it, where there is one
abbrev pub behind : ℕ → List ℕ → Option (List ℕ)
behind separator [] = None
behind separator (byte ∷ bytes) = if byte == separator then Some bytes else behind separator bytes

-- a byte put before the first of some pieces
abbrev pub onto_first : ℕ → List (List ℕ) → List (List ℕ)
onto_first byte [] = (byte ∷ []) ∷ []
onto_first byte (piece ∷ pieces) = (byte ∷ piece) ∷ pieces

-- the lines of a text: each ends with a line feed, which the last one may lack
abbrev pub lines : List ℕ → List (List ℕ)
lines [] = []
lines (byte ∷ bytes) = if byte == 10 then [] ∷ lines bytes else onto_first byte (lines bytes)

-- the fields of a text: one space stands between two of them
abbrev pub fields : List ℕ → List (List ℕ)
fields [] = [] ∷ []
fields (byte ∷ bytes) = if byte == 32 then [] ∷ fields bytes else onto_first byte (fields bytes)

-- the fields behind a word's space; a word without a space has none
abbrev pub fields_behind : Option (List ℕ) → List (List ℕ)
fields_behind None = []
fields_behind (Some rest) = fields rest
