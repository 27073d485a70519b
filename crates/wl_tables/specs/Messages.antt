-- What the Wayland protocol's table of messages says of a message that an interface, the way and
-- the opcode name.
use Rattle.std.specs.Prelude.{true, false}
use Rattle.std.specs.Prelude.{ℕ, List, map, filter_map, slice_get, Bool, Option, Some, None}
use Rattle.std.specs.Prelude.{option_map, option_and_then}
use Rattle.std.specs.List.{position_from}
use Rattle.std.specs.Str.{bytes_eq}
use Rattle.wl_wire.specs.SignatureForm.{SignatureForm}
use Rattle.wl_wire.specs.declared.signature.Slot.{Slot}
use Rattle.wl_wire.specs.declared.signature.ArgKind.TheVariants.{NewId, Handle}
use Rattle.wp_outside.specs.declared.kinds.HandleKind.{HandleKind}
use Rattle.wl_tables.specs.declared.interface.Interface.{Interface}
use Rattle.wl_tables.specs.declared.rows.Place.{Place}
use Rattle.wl_tables.specs.declared.rows.Place.TheVariants.{Plain, OrNull, New, Carried}
use Rattle.wl_tables.specs.Places.{MessageRow}
use Rattle.wl_tables.specs.Table.{messages}
use Rattle.wl_tables.specs.Ways.{way_of}

-- the row of a message, if there is one
abbrev pub row : Interface → Bool → ℕ → Option MessageRow
row interface events opcode = slice_get (messages interface (way_of events)) opcode

-- the slot of a place
abbrev pub slot_of : Place → Slot
slot_of (Plain it) = record { kind = it; null = false }
slot_of (OrNull it) = record { kind = it; null = true }
slot_of (New it) = record { kind = NewId; null = false }
slot_of (Carried it) = record { kind = Handle; null = false }

-- the slots in order, and whether the object is destroyed
abbrev pub form_of : MessageRow → SignatureForm
form_of it = record { slots = map slot_of it.places; destroys = it.destroys }

-- the interface of the new object of a place
abbrev pub made_by : Place → Option Interface
made_by (New it) = Some it
made_by _ = None

-- the kind of the handle of a place
abbrev pub carried_by : Place → Option HandleKind
carried_by (Carried it) = Some it
carried_by _ = None

-- the first of them among places
abbrev pub new_in : List Place → Option Interface
new_in places = slice_get (filter_map made_by places) 0

abbrev pub handle_in : List Place → Option HandleKind
handle_in places = slice_get (filter_map carried_by places) 0

-- what the table says of the message
abbrev pub signature : Interface → Bool → ℕ → Option SignatureForm
signature interface events opcode = option_map form_of (row interface events opcode)

abbrev pub new_interface : Interface → Bool → ℕ → Option Interface
new_interface interface events opcode =
    option_and_then (λ it. new_in it.places) (row interface events opcode)

abbrev pub handle_kind : Interface → Bool → ℕ → Option HandleKind
handle_kind interface events opcode =
    option_and_then (λ it. handle_in it.places) (row interface events opcode)

abbrev pub message_name : Interface → Bool → ℕ → Option (List ℕ)
message_name interface events opcode = option_map (λ it. it.name) (row interface events opcode)

-- the place of the row with this name, to the last byte
abbrev pub opcode_of : Interface → Bool → List ℕ → Option ℕ
opcode_of interface events name =
    position_from (λ it. bytes_eq it.name name) 0 (messages interface (way_of events))
