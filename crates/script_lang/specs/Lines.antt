-- What one line of a script asks for, whatever stood before it; the language is this project's own,
-- and a message is that of the Wayland protocol which its text names.
use Rattle.std.specs.Prelude.{ℕ, Bool, true, List, [], ◌∷◌, Option, Some, None, Result, Ok, Err}
use Rattle.std.specs.Prelude.{if◌then◌else◌, ◌==◌, codes}
use Rattle.std.specs.List.{list_all, list_any}
use Rattle.std.specs.Map.{lookup}
use Rattle.std.specs.Str.{bytes_eq}
use Rattle.wl_tables.specs.Ways.{own_way}
use Rattle.wl_text.specs.Enclosed.{is_shown}
use Rattle.wl_text.specs.Text.{message_of}
use Rattle.wl_text.specs.declared.text_message.TextMessage.{TextMessage}
use Rattle.wp_outside.specs.declared.kinds.Side.{Side}
use Rattle.wp_outside.specs.declared.kinds.Side.TheVariants.{Near, Far}
use Rattle.script_lang.specs.Pieces.{front, behind, fields_behind}
use Rattle.script_lang.specs.Rows.{Row, peer_rows, other_rows}
use Rattle.script_lang.specs.declared.causes.ScriptCause.{ScriptCause}
use Rattle.script_lang.specs.declared.causes.ScriptCause.TheVariants.{Text, Word, Form, Message}
use Rattle.script_lang.specs.declared.steps.StepKind.{StepKind}
use Rattle.script_lang.specs.declared.steps.StepKind.TheVariants as step

-- empty lines and comments are skipped, whatever bytes they hold
abbrev pub is_skipped : List ℕ → Bool
is_skipped [] = true
is_skipped (byte ∷ bytes) = byte == 35

-- the peer sends a message, where a text is one
abbrev pub said : Side → Option TextMessage → Result StepKind ScriptCause
said peer (Some message) = Ok (step.Say peer message)
said peer None = Err Message

-- the text of a message has an `@` in its first field
abbrev pub message_line : Side → List ℕ → List ℕ → Result StepKind ScriptCause
message_line peer first text =
    if list_any (λ byte. byte == 64) first then said peer (message_of (own_way peer) text)
    else Err Word

-- behind `app ` or `comp `: a word with its row, or a message
abbrev pub told : Side → List ℕ → Option Row → Result StepKind ScriptCause
told peer rest (Some row) = row (fields_behind (behind 32 rest))
told peer rest None = message_line peer (front 32 rest) rest

-- behind `app` or `comp`
abbrev pub peer_line : Side → Option (List ℕ) → Result StepKind ScriptCause
peer_line peer None = Err Form
peer_line peer (Some rest) = told peer rest (lookup (bytes_eq (front 32 rest)) (peer_rows peer))

-- behind another first word
abbrev pub other_line : Option (List ℕ) → Option Row → Result StepKind ScriptCause
other_line rest (Some row) = row (fields_behind rest)
other_line rest None = Err Word

-- a first word, and what stands behind its space
abbrev pub asked_by : List ℕ → Option (List ℕ) → Result StepKind ScriptCause
asked_by word rest =
    if bytes_eq word (codes "app") then peer_line Near rest
    else if bytes_eq word (codes "comp") then peer_line Far rest
    else other_line rest (lookup (bytes_eq word) other_rows)

-- what a line that isn't skipped asks for, or the first cause for which it asks for nothing; a line
-- is visible ASCII
unfoldable pub asked : List ℕ → Result StepKind ScriptCause
asked line = if list_all is_shown line then asked_by (front 32 line) (behind 32 line) else Err Text
