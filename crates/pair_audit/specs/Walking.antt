-- A walk along the lines of two sides by their rising numbers; the link is this project's own.
use Rattle.std.specs.Prelude.{ℕ, ◌==◌, cond, min, List, [], ◌∷◌, Option, Some, None}
use Rattle.pair_model.specs.Lines.{Line}

-- the least number of both, where the lines of each rise
abbrev pub first_of : List Line → List Line → Option ℕ
first_of [] [] = None
first_of [] (there ∷ far) = Some there.connection
first_of (here ∷ near) [] = Some here.connection
first_of (here ∷ near) (there ∷ far) = Some (min here.connection there.connection)

-- the lines behind that of a connection, if that is the first one
abbrev pub rows_behind : ℕ → List Line → List Line
rows_behind connection [] = []
rows_behind connection (line ∷ lines) =
    cond (line.connection == connection) lines (line ∷ lines)
