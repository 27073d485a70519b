-- Which lines of a script the program runs. The others are read and refused. The script language is
-- this project's own.
use Rattle.std.specs.Prelude.{ℕ, Bool, true, false, if◌then◌else◌, List, [], ◌∷◌}
use Rattle.std.specs.Prelude.{Option, Some, None}
use Rattle.script_lang.specs.declared.steps.Step.{Step}
use Rattle.script_lang.specs.declared.steps.StepKind.{StepKind}
use Rattle.script_lang.specs.declared.steps.StepKind.TheVariants.{Spoil}

-- whether a line is run: all are but those that replace a byte of the link
abbrev pub is_built : StepKind → Bool
is_built (Spoil dir offset byte) = false
is_built _ = true

-- the first line that is not run
abbrev pub first_unbuilt : List Step → Option ℕ
first_unbuilt [] = None
first_unbuilt (it ∷ steps) = if is_built it.what then first_unbuilt steps else Some it.line
