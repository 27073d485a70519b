-- What is shown of a whole message is a whole message: the message itself, or the message with another last word.
use Rattle.std.proofs.Common.{◌≡◌, ℕ, ◌≤◌, nat_le, List, [], ◌∷◌, length, drop, Bool, true, false, cond, Option, Some, None, IsSome, IfSome, is_none, refl, sym, subst}
use Rattle.std.proofs.lemmas.Bool.{false≢true}
use Rattle.wl_wire.specs.declared.arguments.Arg.{Arg}
use Rattle.wl_wire.specs.declared.arguments.Arg.TheVariants as arg
use Rattle.wl_wire.specs.declared.faults.WireFault.{WireFault}
use Rattle.wl_wire.specs.SignatureForm.{SignatureForm}
use Rattle.wl_wire.specs.ArgFaults.{args_fault}
use Rattle.wl_wire.specs.Wire.{IsMessage, object_of, opcode_of}
use Rattle.wl_wire.proofs.ArgRoundTrip.{good-spelled}
use Rattle.wl_tables.specs.declared.interface.Interface.TheVariants.{WlRegistry}
use Rattle.wl_tables.specs.Messages.{signature}
use Rattle.wl_objects.specs.declared.registry_event.RegistryEvent.{RegistryEvent}
use Rattle.wl_objects.specs.declared.registry_event.RegistryEvent.TheVariants.{Global, Remove, Other}
use Rattle.wl_wire.specs.ArgValues.{args_in}
use Rattle.wl_objects.specs.Entries.{Tracked, entry_at, is_registry}
use Rattle.wl_objects.specs.Tracking.{uint_of}
use Rattle.wl_objects.specs.Registry.{RegistryGlobal, view_event, view_remove, event_in, event_of, registry_event, event_by_row, has_version, is_hidden, with_version}
use Rattle.wl_objects.specs.ObjectLaws.{ShownIsWhole}
use Rattle.wl_objects.proofs.Room.{room_for_uint}
use Rattle.wl_wire.proofs.ArgValuesLemmas.{args-in}
use Rattle.wl_objects.proofs.Versions.{whole_with_version}

-- a global's event has a number as its first argument, so it has room for a word

global_args : (opcode : ℕ) (args : List Arg) (name version : ℕ) (most : Option ℕ) → event_of opcode args ≡ Global name version most → IsSome (uint_of args)
global_args opcode (arg.Uint value ∷ args) name version most is = refl
global_args opcode [] name version most is = absurd (cc)
global_args opcode (_ ∷ args) name version most is = absurd (cc)

by_fault : (opcode : ℕ) (message : List ℕ) (form : SignatureForm) (fault : Option WireFault) (name version : ℕ) (most : Option ℕ) → args_fault form.slots (drop 8 message) ≡ fault
    → cond (is_none fault) (event_of opcode (args_in form.slots (drop 8 message))) Other ≡ Global name version most → 12 ≤ length message
by_fault opcode message form None name version most fine is =
    let spelled = good-spelled form.slots (drop 8 message) fine in
    let some = global_args opcode (args_in form.slots (drop 8 message)) name version most is in
    room_for_uint form.slots message spelled.0 spelled.1 (subst (λ (args : List Arg). IsSome (uint_of args)) (args-in form.slots (drop 8 message) spelled.0 spelled.1) some)
by_fault opcode message form (Some fault) name version most fine is = absurd (cc is)

by_row : (message : List ℕ) (form : Option SignatureForm) (name version : ℕ) (most : Option ℕ) → event_by_row (opcode_of message) (drop 8 message) form ≡ Global name version most → 12 ≤ length message
by_row message None name version most is = absurd (cc is)
by_row message (Some form) name version most is = by_fault (opcode_of message) message form (args_fault form.slots (drop 8 message)) name version most refl is

by_registry : (registry : Bool) (message : List ℕ) (name version : ℕ) (most : Option ℕ) → cond registry (registry_event message) Other ≡ Global name version most → 12 ≤ length message
by_registry true message name version most is = by_row message (signature WlRegistry true (opcode_of message)) name version most is
by_registry false message name version most is = absurd (cc is)

global_room : (objects : Tracked) (message : List ℕ) (name version : ℕ) (most : Option ℕ) → event_in objects message ≡ Global name version most → 12 ≤ length message
global_room objects message name version most is = by_registry (is_registry (entry_at objects (object_of message))) message name version most is

-- an event with a version has room for it
pub version_room : (objects : Tracked) (message : List ℕ) (event : RegistryEvent) → event ≡ event_in objects message → has_version event ≡ true → 12 ≤ length message
version_room objects message (Global name version most) is versioned = global_room objects message name version most (sym is)
version_room objects message (Remove name) is versioned = absurd (false≢true versioned)
version_room objects message Other is versioned = absurd (false≢true versioned)

-- the views

at_version : (fits : Bool) (message : List ℕ) (most : ℕ) → IsMessage message → 12 ≤ length message → IsMessage (cond fits message (with_version message most))
at_version true message most whole long = whole
at_version false message most whole long = whole_with_version message most whole long

by_hidden : (hidden : List RegistryGlobal) (pair : RegistryGlobal) (message : List ℕ) (is : Bool) → is_hidden hidden pair ≡ is → IsMessage message → IfSome (view_remove hidden pair message).shown IsMessage
by_hidden hidden pair message true is whole = rw is tt
by_hidden hidden pair message false is whole = rw is whole

by_event : (hidden : List RegistryGlobal) (message : List ℕ) (event : RegistryEvent) → ((name version : ℕ) (most : Option ℕ) → event ≡ Global name version most → 12 ≤ length message) → IsMessage message → IfSome (view_event hidden message event).shown IsMessage
by_event hidden message (Global name version None) room whole = tt
by_event hidden message (Global name version (Some most)) room whole = at_version (nat_le version most) message most whole (room name version (Some most) refl)
by_event hidden message (Remove name) room whole = by_hidden hidden (object_of message, name) message (is_hidden hidden (object_of message, name)) refl whole
by_event hidden message Other room whole = whole

pub shown_is_whole : ShownIsWhole
shown_is_whole state message whole = by_event state.hidden message (event_in state.tracked message) (global_room state.tracked message) whole
