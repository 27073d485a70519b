-- What one line comes to behind other lines: it is skipped, or asks for its step, or is refused for a cause that is tested.
use Rattle.std.proofs.Common.{◌≡◌, ℕ, ◌+◌, Bool, true, false, cond, List, Option, Some, None, Result, Ok, Err, refl, sym, ap, ◌∙◌}
use Rattle.std.specs.List.{list_all}
use Rattle.std.specs.Prelude.{nat_le, is_some, is_none, ◌/◌}
use Rattle.wp_outside.specs.declared.kinds.Side.{Side}
use Rattle.wp_outside.specs.declared.kinds.Side.TheVariants.{Near, Far}
use Rattle.wl_text.specs.Enclosed.{is_shown}
use Rattle.wl_text.specs.TextLaws.{ReadIsVisible}
use Rattle.script_lang.specs.Grammar.{line_of, named, unless_fault}
use Rattle.script_lang.specs.Laws.{AskedIsVisible}
use Rattle.script_lang.specs.Lines.{asked, asked_by, is_skipped}
use Rattle.script_lang.specs.Names.{Names, Owned, naming, fault_by, fault_of, grow_fault, fill_fault, shut_fault, unless, thing_of, can_grow}
use Rattle.script_lang.specs.Pieces.{front, behind}
use Rattle.script_lang.specs.declared.limits.TheConstants.{MOST_OWNED}
use Rattle.script_lang.specs.declared.causes.ScriptCause.{ScriptCause}
use Rattle.script_lang.specs.declared.causes.ScriptCause.TheVariants.{Text, Number, Name, NotBuilt}
use Rattle.script_lang.specs.declared.steps.StepKind.{StepKind}
use Rattle.script_lang.specs.declared.steps.StepKind.TheVariants as step
use Rattle.script_lang.specs.declared.things.Thing.{Thing}
use Rattle.script_lang.specs.declared.things.Thing.TheVariants.{File, Pipe}
use Rattle.script_lang.proofs.RowLaws.{Tells, AreShown, line_tells}

-- the names
abbrev NameTested : Option ScriptCause → Type 0
NameTested fault = fault ≡ Some NotBuilt → ⊥

unless_tested : (holds : Bool) (cause : ScriptCause) (further : Option ScriptCause) → NameTested (Some cause) → NameTested further → NameTested (unless holds cause further)
unless_tested true cause further now later = later
unless_tested false cause further now later = now

named_unless : (holds : Bool) → NameTested (unless holds Name None)
named_unless holds = unless_tested holds Name None (λ h. cc h) (λ h. cc h)

grow_tested : (owned : Owned) (size : ℕ) (found : Option Thing) → NameTested (grow_fault owned size found)
grow_tested owned size (Some (File old segments)) = unless_tested (can_grow owned old segments size) Number None (λ h. cc h) (λ h. cc h)
grow_tested owned size (Some Pipe) = λ h. cc h
grow_tested owned size None = λ h. cc h

fill_tested : (end : ℕ) (found : Option Thing) → NameTested (fill_fault end found)
fill_tested end (Some (File size segments)) = named_unless (nat_le end (size / 8))
fill_tested end (Some Pipe) = λ h. cc h
fill_tested end None = λ h. cc h

shut_tested : (found : Option Thing) → NameTested (shut_fault found)
shut_tested (Some (File size segments)) = λ h. cc h
shut_tested (Some Pipe) = λ h. cc h
shut_tested None = λ h. cc h

fault_tested : (owned : Owned) (what : StepKind) → NameTested (fault_of owned what)
fault_tested owned (step.File peer number size) = unless_tested (nat_le (owned.total + size) MOST_OWNED) Number _ (λ h. cc h) (named_unless (is_none (thing_of owned number)))
fault_tested owned (step.Grow peer number size) = grow_tested owned size (thing_of owned number)
fault_tested owned (step.Fill peer number first count value) = fill_tested (first + count) (thing_of owned number)
fault_tested owned (step.Pipe peer number) = named_unless (is_none (thing_of owned number))
fault_tested owned (step.Give peer number) = named_unless (is_some (thing_of owned number))
fault_tested owned (step.Shut peer number) = shut_tested (thing_of owned number)
fault_tested owned (step.Say peer message) = named_unless (list_all (λ number. is_some (thing_of owned number)) message.handles)
fault_tested owned _ = λ h. cc h

by_tested : (names : Names) (peer : Option Side) (what : StepKind) → NameTested (fault_by names peer what)
by_tested names (Some Near) what = fault_tested names.near what
by_tested names (Some Far) what = fault_tested names.far what
by_tested names None what = λ h. cc h

-- what a line comes to
abbrev pub IsTold : List ℕ → Result (Option StepKind) ScriptCause → Type 0
IsTold text (Ok None) = is_skipped text ≡ true
IsTold text (Ok (Some what)) = (is_skipped text ≡ false) × (asked text ≡ Ok what)
IsTold text (Err cause) = cause ≡ NotBuilt → ⊥

fault_told : (text : List ℕ) (what : StepKind) (fault : Option ScriptCause) → is_skipped text ≡ false → asked text ≡ Ok what → NameTested fault → IsTold text (unless_fault fault what)
fault_told text what (Some cause) no_skip asks tested = λ is. tested (ap Some is)
fault_told text what None no_skip asks tested = (no_skip, asks)

refusal_tested : (P : Type 0) (cause : ScriptCause) → Tells {A = StepKind} P (Err cause) → cause ≡ NotBuilt → ⊥
refusal_tested P NotBuilt tells is = tells
refusal_tested P _ tells is = cc is

shown_of : (line : List ℕ) (told : Result StepKind ScriptCause) (what : StepKind) → told ≡ Ok what → Tells (AreShown line) told → AreShown line
shown_of line (Ok other) what is tells = tells
shown_of line (Err cause) what is tells = absurd (cc is)

chosen : (shown : Bool) (cause : ScriptCause) → cond {A = Result StepKind ScriptCause} shown (Err cause) (Err Text) ≡ Err (cond shown cause Text)
chosen true cause = refl
chosen false cause = refl

-- a line whose word was cut off
module _ (line first : List ℕ) (rest : Option (List ℕ)) (before : first ≡ front 32 line) (after : rest ≡ behind 32 line) where
  pub asked_by_cut : asked_by first rest ≡ asked_by (front 32 line) (behind 32 line)
  asked_by_cut = ap (λ it. asked_by it rest) before ∙ ap (asked_by (front 32 line)) after

  pub asked_refused : (cause other : ScriptCause) → asked_by first rest ≡ Err other → cause ≡ cond (list_all is_shown line) other Text → asked line ≡ Err cause
  unfolding asked
  asked_refused cause other told is =
      ap (λ it. cond (list_all is_shown line) it (Err Text)) (sym asked_by_cut ∙ told) ∙ chosen (list_all is_shown line) other ∙ ap Err (sym is)

module _ (visible : ReadIsVisible) where
  pub asked_answered : (line : List ℕ) (what : StepKind) → asked_by (front 32 line) (behind 32 line) ≡ Ok what → asked line ≡ Ok what
  unfolding asked
  asked_answered line what told =
      let shown : list_all is_shown line ≡ true = shown_of line (asked_by (front 32 line) (behind 32 line)) what told (line_tells visible line) in
      rw shown told

  asked_tells : (line : List ℕ) → Tells (AreShown line) (asked line)
  unfolding asked
  asked_tells line = elim (list_all is_shown line) as (λ b. Tells (AreShown line) (cond b (asked_by (front 32 line) (behind 32 line)) (Err Text))) [ true ↦ line_tells visible line | false ↦ tt ]

  named_told : (names : Names) (text : List ℕ) (told : Result StepKind ScriptCause) → is_skipped text ≡ false → asked text ≡ told → Tells (AreShown text) told → IsTold text (named names told)
  named_told names text (Ok what) no_skip asks tells = fault_told text what (fault_by names (naming what) what) no_skip asks (by_tested names (naming what) what)
  named_told names text (Err cause) no_skip asks tells = refusal_tested (AreShown text) cause tells

  pub line_told : (names : Names) (text : List ℕ) → IsTold text (line_of names text)
  line_told names text = elim (is_skipped text) as (λ b. is_skipped text ≡ b → IsTold text (cond b (Ok None) (named names (asked text)))) [
    | true ↦ λ is. is
    | false ↦ λ no_skip. named_told names text (asked text) no_skip refl (asked_tells text)
  ] refl

  pub asked_is_visible : AskedIsVisible
  asked_is_visible line what asks = shown_of line (asked line) what asks (asked_tells line)
