-- How the messages of a Wayland connection make and destroy objects (the Wayland protocol's
-- document, on creating objects, and `wl_display.delete_id` of wayland.xml): one message, and a
-- list of them in the order in which they pass.
use Rattle.std.specs.Prelude.{ℕ, ◌==◌, if◌then◌else◌, List, [], ◌∷◌, drop, filter_map, Bool, true}
use Rattle.std.specs.Prelude.{false, Option, Some, None, option_map, option_and_then, Result, Ok}
use Rattle.std.specs.Prelude.{Err}
use Rattle.std.specs.List.{slice_get}
use Rattle.wl_wire.specs.declared.arguments.Arg.{Arg}
use Rattle.wl_wire.specs.declared.arguments.Arg.TheVariants as arg
use Rattle.wl_wire.specs.declared.faults.WireFault.{WireFault}
use Rattle.wl_wire.specs.declared.faults.ObjectFault.{ObjectFault}
use Rattle.wl_wire.specs.declared.faults.ObjectFault.TheVariants.{UnknownObject, UnknownOpcode}
use Rattle.wl_wire.specs.declared.faults.ObjectFault.TheVariants.{Wire}
use Rattle.wl_wire.specs.SignatureForm.{SignatureForm}
use Rattle.wl_wire.specs.Wire.{object_of, opcode_of}
use Rattle.wl_wire.specs.ArgFaults.{args_fault}
use Rattle.wl_tables.specs.declared.interface.Interface.{Interface}
use Rattle.wl_tables.specs.declared.interface.Interface.TheVariants.{WlDisplay}
use Rattle.wl_tables.specs.declared.way.Way.{Way}
use Rattle.wl_tables.specs.declared.way.Way.TheVariants.{Request, Event}
use Rattle.wl_tables.specs.Interfaces.{interface_of, max_version}
use Rattle.wl_tables.specs.Messages.{signature, new_interface}
use Rattle.wl_tables.specs.Ways.{is_event}
use Rattle.wl_objects.specs.declared.entry.NewObject.{NewObject}
use Rattle.wl_objects.specs.declared.passed.Passed.{Passed}
use Rattle.wl_objects.specs.declared.reading.Reading.{Reading}
use Rattle.wl_wire.specs.ArgValues.{args_in}
use Rattle.wl_objects.specs.Entries.{Tracked, addressed, with_new, with_destroyed, with_deleted}

-- the value, or the cause that it isn't there
abbrev pub found :
    {X Y : Type 0} → Option X → ObjectFault → (X → Result Y ObjectFault) → Result Y ObjectFault
found None fault next = Err fault
found (Some it) fault next = next it

-- goes on where nothing is at fault
abbrev pub then_goes :
    {X Y : Type 0} → Result X ObjectFault → (X → Result Y ObjectFault) → Result Y ObjectFault
then_goes (Ok it) next = next it
then_goes (Err fault) next = Err fault

-- the global of this name, of those that are shown
abbrev pub global_of : List ℕ → Option Interface
global_of name =
    option_and_then (λ it. option_map (λ version. it) (max_version it)) (interface_of name)

-- the new object of an argument: its id, and its interface by the table, or by the name that `bind`
-- gives if it is a global's
abbrev pub new_at : Option Interface → Arg → Option NewObject
new_at made (arg.NewId id) =
    option_map (λ interface. record { id = id; interface = Some interface }) made
new_at made (arg.Bind name version id) = Some (record { id = id; interface = global_of name })
new_at made _ = None

abbrev pub new_of : Option Interface → List Arg → Option NewObject
new_of made args = slice_get (filter_map (new_at made) args) 0

-- whether the message is `wl_display.delete_id`, the display's event 1
abbrev pub is_delete_id : Interface → Way → ℕ → Bool
is_delete_id WlDisplay Event opcode = opcode == 1
is_delete_id _ _ opcode = false

abbrev pub uint_of : List Arg → Option ℕ
uint_of (arg.Uint value ∷ _) = Some value
uint_of _ = None

-- the id that a message gives free
abbrev pub deleted_of : Way → Reading → Option ℕ
deleted_of way it = if is_delete_id it.interface way it.opcode then uint_of it.args else None

-- what a message says by the table: its interface, opcode and arguments, and whether it destroys
-- its object
abbrev pub read_by :
    Interface → ℕ → List ℕ → SignatureForm → Option WireFault → Result Reading ObjectFault
read_by interface opcode bytes form None =
    Ok (record {
      interface = interface;
      opcode = opcode;
      args = args_in form.slots bytes;
      destroys = form.destroys;
    })
read_by interface opcode bytes form (Some fault) = Err (Wire fault)

-- a message of an object of this interface
abbrev pub read_row : Interface → Way → List ℕ → Result Reading ObjectFault
read_row interface way message =
    found (signature interface (is_event way) (opcode_of message)) UnknownOpcode (λ form.
    read_by interface (opcode_of message) (drop 8 message) form
    (args_fault form.slots (drop 8 message)))

abbrev pub reading : Way → Tracked → List ℕ → Result Reading ObjectFault
reading way objects message =
    found (addressed way objects (object_of message)) UnknownObject
    (λ entry. read_row entry.interface way message)

-- the new object that a message makes
abbrev pub made_by_message : Way → Reading → Option NewObject
made_by_message way it = new_of (new_interface it.interface (is_event way) it.opcode) it.args

-- the objects after a message of an object that says this: its new object enters, its object is
-- destroyed where the table says so, and `delete_id` gives an id free
abbrev pub followed : Way → Tracked → ℕ → Reading → Result Tracked ObjectFault
followed way objects object it =
    then_goes (with_new way objects (made_by_message way it)) (λ after.
    Ok (with_deleted (deleted_of way it) (with_destroyed it.destroys object after)))

-- what a message is found to be
abbrev pub passed_as : Reading → Passed
passed_as it = record { interface = it.interface; opcode = it.opcode; args = it.args }

-- what a message is found to be, and the objects after it
pub record Admission : Type 0 where
  pub passed : Passed
  pub objects : Tracked

-- one message, or the first cause for which it doesn't pass
abbrev pub step : Way → Tracked → List ℕ → Result Admission ObjectFault
step way objects message =
    then_goes (reading way objects message) (λ it.
    then_goes (followed way objects (object_of message) it) (λ after.
    Ok (record { passed = passed_as it; objects = after })))

-- messages in the order in which they pass, or the cause of the first that doesn't
abbrev pub track : Tracked → List (Way × List ℕ) → Result Tracked ObjectFault
track objects [] = Ok objects
track objects (it ∷ rest) = then_goes (step it.0 objects it.1) (λ done. track done.objects rest)
