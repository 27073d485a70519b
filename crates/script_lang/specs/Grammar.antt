-- Which texts are scripts, and the steps of those that are. The language is this project's own.
use Rattle.std.specs.Prelude.{◌≡◌, ℕ, ◌+◌, List, [], ◌∷◌, Option, Some, None, Result, Ok, Err}
use Rattle.std.specs.Prelude.{if◌then◌else◌, nat_lt, length}
use Rattle.script_lang.specs.Lines.{is_skipped, asked}
use Rattle.script_lang.specs.Names.{Names, no_names, naming, fault_by, after_by}
use Rattle.script_lang.specs.Pieces.{lines}
use Rattle.script_lang.specs.declared.causes.ScriptCause.{ScriptCause}
use Rattle.script_lang.specs.declared.causes.ScriptRead.{ScriptRead}
use Rattle.script_lang.specs.declared.causes.ScriptRead.TheVariants.{Fault, Lines, Memory}
use Rattle.script_lang.specs.declared.limits.TheConstants.{MOST_LINES}
use Rattle.script_lang.specs.declared.script.Script.{Script}
use Rattle.script_lang.specs.declared.steps.Step.{Step}
use Rattle.script_lang.specs.declared.steps.StepKind.{StepKind}

-- what a line asks for, unless it names what it can't
abbrev pub unless_fault : Option ScriptCause → StepKind → Result (Option StepKind) ScriptCause
unless_fault (Some cause) what = Err cause
unless_fault None what = Ok (Some what)

-- a line's step behind lines that leave these names
abbrev pub named : Names → Result StepKind ScriptCause → Result (Option StepKind) ScriptCause
named names (Ok what) = unless_fault (fault_by names (naming what) what) what
named names (Err cause) = Err cause

-- what a line asks for, nothing where it is skipped, or the first cause for which it is no line of
-- a script
abbrev pub line_of : Names → List ℕ → Result (Option StepKind) ScriptCause
line_of names line = if is_skipped line then Ok None else named names (asked line)

-- the names behind a line
abbrev pub names_after : Names → Result (Option StepKind) ScriptCause → Names
names_after names (Ok (Some what)) = after_by names (naming what) what
names_after names _ = names

abbrev pub onto_steps : Step → Result (List Step) ScriptRead → Result (List Step) ScriptRead
onto_steps it (Ok steps) = Ok (it ∷ steps)
onto_steps it (Err fault) = Err fault

-- a line with its number, and the lines behind it
abbrev pub and_then :
    ℕ → Result (Option StepKind) ScriptCause → Result (List Step) ScriptRead
    → Result (List Step) ScriptRead
and_then line (Ok (Some what)) further = onto_steps (record { line = line; what = what }) further
and_then line (Ok None) further = further
and_then line (Err cause) further = Err (Fault line cause)

-- the steps of lines, whose first has this number
abbrev pub steps_from : Names → ℕ → List (List ℕ) → Result (List Step) ScriptRead
steps_from names line [] = Ok []
steps_from names line (text ∷ texts) =
    and_then line (line_of names text)
    (steps_from (names_after names (line_of names text)) (line + 1) texts)

-- the steps of the lines of a script, or why they are none
abbrev pub steps_of_lines : List (List ℕ) → Result (List Step) ScriptRead
steps_of_lines texts =
    if nat_lt MOST_LINES (length texts) then Err Lines else steps_from no_names 1 texts

-- the steps of a script, or why it is none
unfoldable pub steps_of : List ℕ → Result (List Step) ScriptRead
steps_of bytes = steps_of_lines (lines bytes)

-- the answer is that script, or why it is none; want of memory alone is free
abbrev pub ReadsScript : Result Script ScriptRead → Result (List Step) ScriptRead → Type 0
ReadsScript (Ok script) told = told ≡ Ok script.steps
ReadsScript (Err (Fault line cause)) told = told ≡ Err (Fault line cause)
ReadsScript (Err Lines) told = told ≡ Err Lines
ReadsScript (Err Memory) told = Unit {0}
