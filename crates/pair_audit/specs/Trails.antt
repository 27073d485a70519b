-- The lines that a proxy keeps in its records; this project's own.
use Rattle.std.specs.Prelude.{List}
use Rattle.pair_model.specs.Lines.{Line}
use Rattle.side_model.specs.Trails.{TrailState}

abbrev pub rows_of : TrailState → List Line
rows_of trail = trail.book.trail.lines.rows
