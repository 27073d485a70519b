-- The lines of a side as its records keep them, and the room behind what was written on the last
-- one; the link is this project's own.
use Rattle.std.specs.Prelude.{ℕ, ◌+◌, ◌≤◌, List, [], ◌∷◌, vec_len}
use Rattle.std.specs.Vec.{vec_capacity}
use Rattle.pair_model.specs.Lines.{Line}
use Rattle.side_model.specs.Books.{Lined}
use Rattle.trail_records.specs.declared.lines.LineRecord.{LineRecord}

abbrev pub line_of : LineRecord → Line
line_of line = record {
  connection = line.connection;
  written = line.written.items;
  read = line.read;
}

-- behind the bytes written on the last line there is room for so many more
abbrev pub HasRoom : ℕ → List LineRecord → Type 0
HasRoom room [] = Unit {0}
HasRoom room (line ∷ []) = vec_len line.written + room ≤ vec_capacity line.written
HasRoom room (line ∷ next ∷ lines) = HasRoom room (next ∷ lines)

-- the line of a connection on which nothing was written or read
abbrev pub new_line : ℕ → Line
new_line connection = record { connection = connection; written = []; read = [] }

abbrev pub no_lines : Lined
no_lines = record { rows = []; room = 0 }

abbrev pub roomy : ℕ → Lined → Lined
roomy room lines = record lines { room = room }
