-- One more line behind those that were read.
use Rattle.std.proofs.Common.{◌≡◌, ℕ, ◌+◌, List, [], ◌∷◌, ◌++◌, Option, Some, None, Result, Ok, Err, refl, ap, ◌∙◌, sym, append_assoc, append-nil}
use Rattle.std.specs.Result.{IsOk}
use Rattle.script_lang.specs.Grammar.{ReadsScript, and_then, onto_steps, line_of, names_after, steps_from}
use Rattle.script_lang.specs.Names.{Names}
use Rattle.script_lang.specs.Reading.{Added, steps_at}
use Rattle.script_lang.specs.declared.causes.ScriptCause.{ScriptCause}
use Rattle.script_lang.specs.declared.causes.ScriptRead.{ScriptRead}
use Rattle.script_lang.specs.declared.causes.ScriptRead.TheVariants.{Fault, Lines, Memory}
use Rattle.script_lang.specs.declared.steps.Step.{Step}
use Rattle.script_lang.specs.declared.steps.StepKind.{StepKind}

-- steps before those of the lines that are left
abbrev pub behind_steps : List Step → Result (List Step) ScriptRead → Result (List Step) ScriptRead
behind_steps before (Ok further) = Ok (before ++ further)
behind_steps before (Err fault) = Err fault

pub behind_onto : (before : List Step) (it : Step) (further : Result (List Step) ScriptRead) → behind_steps (before ++ it ∷ []) further ≡ behind_steps before (onto_steps it further)
behind_onto before it (Ok further) = ap Ok (append_assoc before (it ∷ []) further)
behind_onto before it (Err fault) = refl

behind_line : (before : List Step) (line : ℕ) (told : Result (Option StepKind) ScriptCause) (further : Result (List Step) ScriptRead) → IsOk told
    → behind_steps (before ++ steps_at line told) further ≡ behind_steps before (and_then line told further)
behind_line before line (Ok (Some what)) further ok = behind_onto before _ further
behind_line before line (Ok None) further ok = ap (λ steps. behind_steps steps further) (append-nil before)
behind_line before line (Err cause) further ok = cc ok

-- a line that was added leaves as much to come as before it
pub added : (old new : List Step) (names more : Names) (line : ℕ) (text : List ℕ) (texts : List (List ℕ)) → IsOk (line_of names text)
    → new ≡ old ++ steps_at line (line_of names text) → more ≡ names_after names (line_of names text)
    → behind_steps new (steps_from more (line + 1) texts) ≡ behind_steps old (steps_from names line (text ∷ texts))
added old new names more line text texts ok is leaves =
    ap (λ steps. behind_steps steps (steps_from more (line + 1) texts)) is
    ∙ ap (λ names'. behind_steps (old ++ steps_at line (line_of names text)) (steps_from names' (line + 1) texts)) leaves
    ∙ behind_line old line (line_of names text) (steps_from (names_after names (line_of names text)) (line + 1) texts) ok

-- a line that is none, or no memory for it, ends the reading
pub ended : (fault : ScriptRead) (old new : List Step) (names : Names) (line : ℕ) (text : List ℕ) (texts : List (List ℕ)) (told : Result (List Step) ScriptRead)
    → Added (Err fault) old new line (line_of names text) → behind_steps old (steps_from names line (text ∷ texts)) ≡ told → ReadsScript (Err fault) told
ended (Fault at cause) old new names line text texts told is complete =
    sym complete ∙ ap (λ it. behind_steps old (and_then line it (steps_from (names_after names (line_of names text)) (line + 1) texts))) is.1 ∙ ap (λ n. Err (Fault n cause)) (sym is.0)
ended Lines old new names line text texts told is complete = absurd is
ended Memory old new names line text texts told is complete = tt
