-- What a dial in memory finds where both sides meet. This project's own.
use Rattle.std.specs.Prelude.{⊤}
use Rattle.link_ends.specs.declared.new_ends.NewEnd.{NewEnd}
use Rattle.link_ends.specs.declared.meetings.Met.{Met}
use Rattle.link_ends.specs.declared.meetings.Met.TheVariants.{Line, Alone, Memory}

-- a fact of the line that was found, where there is one
abbrev pub IfMet : Met → (NewEnd → Type 0) → Type 0
IfMet (Line end) P = P end
IfMet Alone P = ⊤
IfMet Memory P = ⊤
