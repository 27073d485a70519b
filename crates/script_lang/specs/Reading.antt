-- What reading a part of a script answers, beside want of memory, which is free; the language is
-- this project's own.
use Rattle.std.specs.Prelude.{◌≡◌, ℕ, List, [], ◌∷◌, ◌++◌, Option, Some, None, Result, Ok, Err}
use Rattle.std.specs.Result.{IsOk}
use Rattle.script_lang.specs.declared.causes.ScriptCause.{ScriptCause}
use Rattle.script_lang.specs.declared.causes.ScriptRead.{ScriptRead}
use Rattle.script_lang.specs.declared.causes.ScriptRead.TheVariants as read
use Rattle.script_lang.specs.declared.faults.LineFault.{LineFault}
use Rattle.script_lang.specs.declared.faults.LineFault.TheVariants.{Cause, Memory}
use Rattle.script_lang.specs.declared.steps.Step.{Step}
use Rattle.script_lang.specs.declared.steps.StepKind.{StepKind}

-- the answer is what is told
abbrev pub Read : {A : Type 0} → Result A LineFault → Result A ScriptCause → Type 0
Read (Ok a) told = told ≡ Ok a
Read (Err (Cause cause)) told = told ≡ Err cause
Read (Err Memory) told = Unit {0}

-- what a line adds to the steps
abbrev pub steps_at : ℕ → Result (Option StepKind) ScriptCause → List Step
steps_at line (Ok (Some what)) = record { line = line; what = what } ∷ []
steps_at line (Ok None) = []
steps_at line (Err cause) = []

-- a line was added, or is none
abbrev pub Added :
    Result (Unit {0}) ScriptRead → List Step → List Step → ℕ → Result (Option StepKind) ScriptCause
    → Type 0
Added (Ok done) old new line told = IsOk told × (new ≡ old ++ steps_at line told)
Added (Err (read.Fault at cause)) old new line told = (at ≡ line) × (told ≡ Err cause)
Added (Err read.Lines) old new line told = ⊥
Added (Err read.Memory) old new line told = Unit {0}
