-- What holds of every script's steps and of every refusal; the language is this project's own.
use Rattle.std.specs.Prelude.{◌≡◌, ℕ, ◌+◌, ◌-◌, ◌<◌, ◌≤◌, ◌↔◌, List, [], ◌∷◌, ◌++◌, Some, Ok, Err}
use Rattle.std.specs.Prelude.{length, map, slice_get, true, if◌then◌else◌}
use Rattle.std.specs.List.{AllByRecursion, list_all}
use Rattle.wl_text.specs.Enclosed.{is_shown}
use Rattle.wp_outside.specs.declared.kinds.Side.{Side}
use Rattle.script_lang.specs.Grammar.{steps_of, steps_of_lines}
use Rattle.script_lang.specs.Lines.{is_skipped, asked}
use Rattle.script_lang.specs.Pieces.{lines}
use Rattle.script_lang.specs.Puts.{is_stop, puts}
use Rattle.script_lang.specs.declared.causes.ScriptCause.{ScriptCause}
use Rattle.script_lang.specs.declared.causes.ScriptCause.TheVariants.{NotBuilt}
use Rattle.script_lang.specs.declared.causes.ScriptRead.TheVariants.{Fault, Lines, Memory}
use Rattle.script_lang.specs.declared.limits.TheConstants.{MOST_LINES}
use Rattle.script_lang.specs.declared.steps.Step.{Step}
use Rattle.script_lang.specs.declared.steps.StepKind.{StepKind}

-- the numbers of the lines that are not skipped, of lines whose first has this number
abbrev pub told_lines : ℕ → List (List ℕ) → List ℕ
told_lines line [] = []
told_lines line (text ∷ texts) =
    if is_skipped text then told_lines (line + 1) texts else line ∷ told_lines (line + 1) texts

-- a step is what the line of its number asks for
pub record IsAsked (texts : List (List ℕ)) (it : Step) : Type 0 where
  pub text : List ℕ
  pub stands : slice_get texts (it.line - 1) ≡ Some text
  pub asks : asked text ≡ Ok it.what

-- each line that isn't skipped has its one step, in order, and no other step is there
pub record HasItsSteps (texts : List (List ℕ)) (steps : List Step) : Type 0 where
  pub told : map (λ it. it.line) steps ≡ told_lines 1 texts
  pub asked : AllByRecursion (IsAsked texts) steps

abbrev pub OneStepEach : Type 0
OneStepEach =
    (bytes : List ℕ) (steps : List Step) → steps_of bytes ≡ Ok steps
    → HasItsSteps (lines bytes) steps

-- the lines before this one are a script, and with it they are none, for this cause
pub record IsFirstFault (texts : List (List ℕ)) (line : ℕ) (cause : ScriptCause) : Type 0 where
  pub few : length texts ≤ MOST_LINES
  pub before : List (List ℕ)
  pub text : List ℕ
  pub behind : List (List ℕ)
  pub parts : texts ≡ before ++ text ∷ behind
  pub number : line ≡ length before + 1
  pub steps : List Step
  pub script : steps_of_lines before ≡ Ok steps
  pub refused : steps_of_lines (before ++ text ∷ []) ≡ Err (Fault line cause)

-- a script is refused for the first line that is none behind those before it, whatever follows
abbrev pub FirstFault : Type 0
FirstFault =
    (bytes : List ℕ) (line : ℕ) (cause : ScriptCause)
    → (steps_of bytes ≡ Err (Fault line cause)) ↔ IsFirstFault (lines bytes) line cause

-- too many lines go before all else
abbrev pub TooManyLines : Type 0
TooManyLines = (bytes : List ℕ) → (steps_of bytes ≡ Err Lines) ↔ (MOST_LINES < length (lines bytes))

-- a line that asks for something is visible ASCII
abbrev pub AskedIsVisible : Type 0
AskedIsVisible =
    (line : List ℕ) (what : StepKind) → asked line ≡ Ok what → list_all is_shown line ≡ true

-- no text is refused as one that isn't built, nor for want of memory
pub record OnlyTested : Type 0 where
  pub cause : (bytes : List ℕ) (line : ℕ) → steps_of bytes ≡ Err (Fault line NotBuilt) → ⊥
  pub memory : (bytes : List ℕ) → steps_of bytes ≡ Err Memory → ⊥

-- what stands behind a `stop` puts nothing on the wires
abbrev pub StopEnds : Type 0
StopEnds =
    (peer : Side) (before behind : List Step) (it : Step)
    → is_stop it.what ≡ true
    → puts peer (before ++ it ∷ behind) ≡ puts peer before
