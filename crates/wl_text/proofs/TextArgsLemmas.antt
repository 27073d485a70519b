-- Arguments that are read one after another.
use Rattle.std.proofs.Common.{◌≡◌, ℕ, ℤ, ◌+◌, ◌≤◌, List, [], ◌∷◌, ◌++◌, length, drop, slice_get, Option, Some, None, option_map, Err, refl, sym, ap, ◌∙◌, append-nil, append_assoc}
use Rattle.std.proofs.lemmas.List.{drop_all}
use Rattle.wl_wire.specs.declared.signature.Slot.{Slot}
use Rattle.wl_wire.proofs.ArgLists.{next-slot}
use Rattle.wl_text.specs.declared.arg_reading.TextArg.{TextArg}
use Rattle.wl_text.specs.declared.arg_reading.TextArgs.{TextArgs}
use Rattle.wl_text.specs.declared.text_message.TextFault.{TextFault}
use Rattle.wl_text.specs.declared.text_message.TextFault.TheVariants.{Form, Memory}
use Rattle.wl_text.specs.Answers.{AnswersFront}
use Rattle.wl_text.specs.Front.{Read}
use Rattle.wl_text.specs.ArgTexts.{comma}
use Rattle.wl_text.specs.ArgReading.{with_handle, with_arg, and_arg, arg_behind, args_at}

-- arguments before others
abbrev pub joined : TextArgs → TextArgs → TextArgs
joined said more = record { args = said.args ++ more.args; handles = said.handles ++ more.handles }

abbrev pub with_said : TextArgs → Read TextArgs → Read TextArgs
with_said said read = option_map (λ it. (joined said it.0, it.1)) read

abbrev pub none : TextArgs
none = record { args = []; handles = [] }

pub with_said_none : (read : Read TextArgs) → with_said none read ≡ read
with_said_none (Some it) = refl
with_said_none None = refl

handles_joined : (before : List ℤ) (one : Option ℤ) (more : List ℤ) → before ++ with_handle one more ≡ (before ++ with_handle one []) ++ more
handles_joined before None more = ap (λ them. them ++ more) (sym (append-nil before))
handles_joined before (Some number) more = sym (append_assoc before (number ∷ []) more)

with_said_arg : (said : TextArgs) (one : TextArg) (read : Read TextArgs) → with_said said (option_map (λ more. (with_arg one more.0, more.1)) read) ≡ with_said (and_arg said one) read
with_said_arg said one None = refl
with_said_arg said one (Some it) =
    ap (λ args. Some (record { args = args; handles = said.handles ++ with_handle one.handle it.0.handles }, it.1)) (sym (append_assoc said.args (one.arg ∷ []) it.0.args))
    ∙ ap (λ handles. Some (record { args = (said.args ++ one.arg ∷ []) ++ it.0.args; handles = handles }, it.1)) (handles_joined said.handles one.handle it.0.handles)

-- some places were read, and so much is left of the text
module _ (slots : List Slot) (whole : Read TextArgs) (said : TextArgs) (word text : List ℕ) (i : ℕ) (so_far : whole ≡ with_said said (args_at word (drop i slots) text)) where
  pub args_end : length slots ≤ i → whole ≡ Some (said, text)
  unfolding args_at
  args_end past = so_far ∙ rw (drop_all i slots past, append-nil said.args, append-nil said.handles)

  pub args_none : (slot : Slot) → slice_get slots i ≡ Some slot → None ≡ arg_behind word slot text → whole ≡ None
  unfolding args_at
  args_none slot here none = so_far ∙ rw (next-slot slots i slot here, ← none)

  pub args_more : (slot : Slot) (one : TextArg) (after : List ℕ) → slice_get slots i ≡ Some slot → Some (one, after) ≡ arg_behind word slot text → whole ≡ with_said (and_arg said one) (args_at comma (drop (i + 1) slots) after)
  unfolding args_at
  args_more slot one after here read = so_far ∙ rw (next-slot slots i slot here, ← read) (with_said_arg said one (args_at comma (drop (i + 1) slots) after))

-- a fault that a part has is the whole's
pub fault_tells : {X Y : Type 0} (fault : TextFault) (part : Read X) (whole : Read Y) → AnswersFront {X = X} (Err fault) part → (None ≡ part → whole ≡ None) → AnswersFront {X = Y} (Err fault) whole
fault_tells Form part whole told next = next (sym told)
fault_tells Memory part whole told next = tt
