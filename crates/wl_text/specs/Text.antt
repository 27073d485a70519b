-- Messages of the Wayland protocol as text; the text is this project's own, with the names of
-- wayland.xml and of the stable xdg-shell.
use Rattle.std.specs.Prelude.{◌≡◌, ℕ, ◌+◌, ℤ, List, [], ◌∷◌, ◌++◌, drop, length, filter_map, codes}
use Rattle.std.specs.Prelude.{decimal, nat_le, if◌then◌else◌, Option, Some, None}
use Rattle.std.specs.Prelude.{Result, Ok, Err}
use Rattle.std.specs.List.{slice_get}
use Rattle.wl_tables.specs.Interfaces.{interface_name, interface_of}
use Rattle.wl_tables.specs.Messages.{carried_by, form_of, signature}
use Rattle.wl_tables.specs.Messages as table
use Rattle.wl_tables.specs.Places.{MessageRow}
use Rattle.wl_tables.specs.Table.{messages}
use Rattle.wl_tables.specs.Ways.{is_event}
use Rattle.wl_tables.specs.declared.interface.Interface.{Interface}
use Rattle.wl_tables.specs.declared.way.Way.{Way}
use Rattle.wl_wire.specs.declared.arguments.Arg.{Arg}
use Rattle.wl_wire.specs.declared.message.TheConstants.{LONGEST_MESSAGE}
use Rattle.wl_wire.specs.ArgFaults.{args_fault}
use Rattle.wl_wire.specs.Building.{args_bytes, built}
use Rattle.wl_wire.specs.Wire.{object_of, opcode_of}
use Rattle.wl_wire.specs.SignatureForm.{SignatureForm}
use Rattle.wl_text.specs.declared.text_message.TextFault.{TextFault}
use Rattle.wl_text.specs.declared.text_message.TextFault.TheVariants.{Form, Memory}
use Rattle.wl_text.specs.declared.text_message.TextMessage.{TextMessage}
use Rattle.wl_text.specs.Front.{Read, ◌>>=◌, behind, split_before}
use Rattle.wl_text.specs.Decimals.{number_at}
use Rattle.wl_wire.specs.ArgValues.{args_in}
use Rattle.wl_text.specs.ArgTexts.{args_text}
use Rattle.wl_text.specs.ArgReading.{args_at}
use Rattle.wl_text.specs.declared.arg_reading.TextArgs.{TextArgs}
use Rattle.wl_text.specs.declared.head.Head.{Head}

-- The message is one of the table's, its arguments are good, and each handle that it carries has a
-- number.
pub record CanPrint (interface : Interface) (way : Way) (message : List ℕ)
    (handles : List ℤ) : Type 0 where
  pub row : MessageRow
  pub stands : slice_get (messages interface way) (opcode_of message) ≡ Some row
  pub good : args_fault (form_of row).slots (drop 8 message) ≡ None
  pub named : length handles ≡ length (filter_map carried_by row.places)

-- the interface and the object: `wl_surface@5`
abbrev pub start_text : Interface → ℕ → List ℕ
start_text interface object = interface_name interface ++ (codes "@" ++ decimal object)

-- the name and the arguments: `.attach(@7, 0, 0)`
abbrev pub call_text : List ℕ → List Arg → List ℤ → List ℕ
call_text name args handles =
    codes "." ++ (name ++ (codes "(" ++ (args_text [] args handles ++ codes ")")))

-- the text of a message of this row, and nothing where there is no row
abbrev pub row_text : Option MessageRow → Interface → List ℕ → List ℤ → List ℕ
row_text None interface message handles = []
row_text (Some row) interface message handles =
    start_text interface (object_of message) ++
    call_text row.name (args_in (form_of row).slots (drop 8 message)) handles

-- the text of a message
unfoldable pub text_of : Interface → Way → List ℕ → List ℤ → List ℕ
text_of interface way message handles =
    row_text (slice_get (messages interface way) (opcode_of message)) interface message handles

-- the value, where nothing is behind it
abbrev pub whole : {X : Type 0} → X × List ℕ → Option X
whole (it, []) = Some it
whole (it, first ∷ rest) = None

-- the arguments up to the end of a line
unfoldable pub last_args_at : SignatureForm → List ℕ → Option TextArgs
last_args_at form text = do
  said ← args_at [] form.slots text
  rest ← behind (codes ")") said.1
  whole (said.0, rest)

-- `@`
abbrev pub at_sign : ℕ
at_sign = 64

-- `(`
abbrev pub parenthesis : ℕ
parenthesis = 40

-- a message up to its arguments: `wl_surface@5.attach(`
unfoldable pub head_at : Way → List ℕ → Read Head
head_at way line = do
  named ← split_before at_sign line
  interface ← interface_of named.0
  object ← number_at named.1
  call ← behind (codes ".") object.1
  word ← split_before parenthesis call
  opcode ← table.opcode_of interface (is_event way) word.0
  form ← signature interface (is_event way) opcode
  Some (
    record { interface = interface; object = object.0; opcode = opcode; signature = form },
    word.1,
  )

-- the message of these arguments, if it isn't too long
unfoldable pub message_from : Head → TextArgs → Option TextMessage
message_from head said =
    if nat_le (8 + length (args_bytes said.args)) LONGEST_MESSAGE
    then Some (record {
      message = built head.object head.opcode said.args;
      interface =
          head.interface;
      handles = said.handles;
    })
    else None

-- the message of a text, where it is one
unfoldable pub message_of : Way → List ℕ → Option TextMessage
message_of way line = do
  head ← head_at way line
  said ← last_args_at head.0.signature head.1
  message_from head.0 said

-- the answer is that message, or that there is none; want of memory alone is free
abbrev pub Reads : Result TextMessage TextFault → Option TextMessage → Type 0
Reads (Ok it) told = told ≡ Some it
Reads (Err Form) told = told ≡ None
Reads (Err Memory) told = Unit {0}
