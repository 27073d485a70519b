-- The text of a message whose row and arguments are known.
use Rattle.std.proofs.Common.{◌≡◌, ℕ, ℤ, List, ◌++◌, drop, slice_get, Option, Some, None, option_map, Result, OnOk, sym, ap, ◌∙◌, subst, append_assoc}
use Rattle.wl_tables.specs.Messages.{form_of, row, signature, message_name}
use Rattle.wl_tables.specs.Places.{MessageRow}
use Rattle.wl_tables.specs.Table.{messages}
use Rattle.wl_tables.specs.declared.interface.Interface.{Interface}
use Rattle.wl_tables.specs.declared.way.Way.{Way}
use Rattle.wl_wire.specs.SignatureForm.{SignatureForm}
use Rattle.wl_wire.specs.declared.arguments.Arg.{Arg}
use Rattle.wl_wire.specs.Wire.{object_of, opcode_of}
use Rattle.wl_wire.specs.ArgValues.{args_in}
use Rattle.wl_tables.proofs.Ways.{way_again}
use Rattle.wl_text.specs.Text.{start_text, call_text, row_text, text_of}
use Rattle.wl_tables.specs.Ways.{is_event}

printed_row : (it : Option MessageRow) (interface : Interface) (message : List ℕ) (handles : List ℤ) (form : SignatureForm) (name : List ℕ) (args : List Arg) → Some form ≡ option_map form_of it → Some name ≡ option_map (λ row. row.name) it → args ≡ args_in form.slots (drop 8 message) → row_text it interface message handles ≡ start_text interface (object_of message) ++ call_text name args handles
printed_row None interface message handles form name args formed named seen = cc formed
printed_row (Some row) interface message handles form name args formed named seen =
    let same_form : form ≡ form_of row = cc formed in
    let same_name : name ≡ row.name = cc named in
    let values : args_in (form_of row).slots (drop 8 message) ≡ args = sym (seen ∙ ap (λ (it : SignatureForm). args_in it.slots (drop 8 message)) same_form) in
    ap (λ them. start_text interface (object_of message) ++ call_text row.name them handles) values
    ∙ ap (λ text. start_text interface (object_of message) ++ call_text text args handles) (sym same_name)

pub printed : (interface : Interface) (way : Way) (message : List ℕ) (handles : List ℤ) (form : SignatureForm) (name : List ℕ) (args : List Arg) → Some form ≡ signature interface (is_event way) (opcode_of message) → Some name ≡ message_name interface (is_event way) (opcode_of message) → args ≡ args_in form.slots (drop 8 message) → text_of interface way message handles ≡ start_text interface (object_of message) ++ call_text name args handles
unfolding text_of
printed interface way message handles form name args formed named seen =
    ap (λ it. row_text (slice_get (messages interface it) (opcode_of message)) interface message handles) (sym (way_again way))
    ∙ printed_row (row interface (is_event way) (opcode_of message)) interface message handles form name args formed named seen

-- A text of two parts, of which one was added before the other.
pub both_parts : {A E : Type 0} (result : Result A E) (new mid old text start call : List ℕ) → text ≡ start ++ call → mid ≡ old ++ start → OnOk result (new ≡ mid ++ call) → OnOk result (new ≡ old ++ text)
both_parts result new mid old text start call whole first second =
    subst (λ it. OnOk result (new ≡ it)) (ap (λ it. it ++ call) first ∙ append_assoc old start call ∙ ap (λ it. old ++ it) (sym whole)) second
