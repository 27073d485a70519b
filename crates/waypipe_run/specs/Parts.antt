-- What the parts of the program's call owe one another. This project's own.
use Rattle.std.specs.Prelude.{◌≡◌, ℕ, List, Option, Some, None}
use Rattle.pair_report.specs.declared.options.ReportOptions.{ReportOptions}
use Rattle.script_lang.specs.declared.causes.ScriptCause.TheVariants.{NotBuilt}
use Rattle.script_lang.specs.declared.steps.Step.{Step}
use Rattle.wp_outside.specs.Lines.{Line, Same}
use Rattle.waypipe_run.specs.Built.{first_unbuilt}
use Rattle.waypipe_run.specs.Reports.{options_of}
use Rattle.waypipe_run.specs.Texts.{script_text}
use Rattle.waypipe_run.specs.Top.{IsScript, Reported, RepliesToText, RepliesToStream}
use Rattle.waypipe_run.specs.declared.status.Status.{Status}
use Rattle.waypipe_run.specs.declared.status.Status.TheVariants as status
use Rattle.waypipe_run.specs.declared.words.Task.{Task}
use Rattle.waypipe_run.specs.declared.words.Task.TheVariants.{Replay, Frames}

-- a line for which nothing is replayed
pub record IsRefused
    (line : ℕ) (answer : Status) (before after : ℕ → Line) (text : List ℕ) : Type 0 where
  pub answered : answer ≡ status.Script line NotBuilt
  pub untouched : Same before after
  pub printed : text ≡ script_text line NotBuilt

-- what a script is answered with: the first line that is not run, or its replay
abbrev pub RepliesByBuilt : Option ℕ → ReportOptions → List Step → Status
    → (before after : ℕ → Line) → List ℕ → Type 0
RepliesByBuilt (Some line) options steps answer before after text =
    IsRefused line answer before after text
RepliesByBuilt None options steps answer before after text =
    Reported options steps answer after text

abbrev pub RepliesToScript : ReportOptions → List Step → Status → (before after : ℕ → Line)
    → List ℕ → Type 0
RepliesToScript options steps = RepliesByBuilt (first_unbuilt steps) options steps

-- what the bytes of the input are answered with; nothing goes over the link for a stream of frames
abbrev pub RepliesToBytes : Task → List ℕ → Status → (before after : ℕ → Line) → List ℕ → Type 0
RepliesToBytes (Replay texts long) bytes answer before after text =
    RepliesToText (options_of texts long) answer bytes before after text
RepliesToBytes Frames bytes answer before after text =
    Same before after × RepliesToStream answer bytes text

-- the bytes are a script of which all lines are run
abbrev pub IsRun : Task → List ℕ → Type 0
IsRun (Replay texts long) bytes = (steps : List Step) × IsScript bytes steps
IsRun Frames bytes = ⊥
