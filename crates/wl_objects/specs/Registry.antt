-- Which globals of a Wayland registry are shown (`wl_registry.global` and
-- `wl_registry.global_remove` of wayland.xml): those of the interfaces that are carried, at the
-- versions that are carried.
use Rattle.std.specs.Prelude.{ℕ, ◌-◌, ◌==◌, nat_le, if◌then◌else◌, List, [], ◌∷◌, ◌++◌, take, drop}
use Rattle.std.specs.Prelude.{length, Bool, true, false, Option, Some, None, option_and_then}
use Rattle.std.specs.Prelude.{option_to_list, is_none, Result, Ok, Err}
use Rattle.std.specs.declared.cmp.Ordering.{Ordering}
use Rattle.std.specs.Ordering.{nat_cmp, ordering_then}
use Rattle.std.specs.BTreeSet.{insert_key}
use Rattle.std.specs.BTreeMap.{is_at}
use Rattle.std.specs.Set.{remove_key}
use Rattle.std.specs.List.{list_any}
use Rattle.wl_wire.specs.declared.arguments.Arg.{Arg}
use Rattle.wl_wire.specs.declared.arguments.Arg.TheVariants as arg
use Rattle.wl_wire.specs.declared.faults.ObjectFault.{ObjectFault}
use Rattle.wl_wire.specs.SignatureForm.{SignatureForm}
use Rattle.wl_wire.specs.Wire.{object_of, opcode_of}
use Rattle.wl_wire.specs.Building.{word_bytes}
use Rattle.wl_tables.specs.declared.interface.Interface.TheVariants.{WlRegistry}
use Rattle.wl_tables.specs.declared.way.Way.{Way}
use Rattle.wl_tables.specs.declared.way.Way.TheVariants.{Request, Event}
use Rattle.wl_wire.specs.ArgFaults.{args_fault}
use Rattle.wl_tables.specs.Messages.{signature}
use Rattle.wl_tables.specs.Interfaces.{interface_of, max_version}
use Rattle.wl_objects.specs.declared.registry_event.RegistryEvent.{RegistryEvent}
use Rattle.wl_objects.specs.declared.registry_event.RegistryEvent.TheVariants.{Global, Remove}
use Rattle.wl_objects.specs.declared.registry_event.RegistryEvent.TheVariants.{Other}
use Rattle.wl_wire.specs.ArgValues.{args_in}
use Rattle.wl_objects.specs.Entries.{Tracked, entry_at, is_registry, first_objects}
use Rattle.wl_objects.specs.Tracking.{Admission, step}

-- a registry object and the name of one of its globals
abbrev pub RegistryGlobal : Type 0
RegistryGlobal = ℕ × ℕ

abbrev pub pair_cmp : RegistryGlobal → RegistryGlobal → Ordering
pair_cmp a b = ordering_then (nat_cmp a.0 b.0) (nat_cmp a.1 b.1)

-- the pair is one of the hidden ones, enters them, leaves them
abbrev pub is_hidden : List RegistryGlobal → RegistryGlobal → Bool
is_hidden hidden pair = list_any (is_at (pair_cmp pair)) hidden

abbrev pub with_pair : List RegistryGlobal → RegistryGlobal → List RegistryGlobal
with_pair hidden pair = insert_key pair_cmp hidden pair

abbrev pub without_pair : List RegistryGlobal → RegistryGlobal → List RegistryGlobal
without_pair hidden pair = remove_key (is_at (pair_cmp pair)) hidden

-- the objects, and the pairs of globals that are not shown
pub record ObjectsState : Type 0 where
  pub tracked : Tracked
  pub hidden : List RegistryGlobal

abbrev pub first_state : ObjectsState
first_state = record { tracked = first_objects; hidden = [] }

-- what is shown of an event, if it is, and the pairs that are hidden after it
pub record View : Type 0 where
  pub shown : Option (List ℕ)
  pub hidden : List RegistryGlobal

-- the greatest version that is shown of the interface with a name
abbrev pub greatest_version : List ℕ → Option ℕ
greatest_version name = option_and_then max_version (interface_of name)

-- what an event of a registry tells: a global with its version and the greatest that is shown, if
-- any is; one that is gone; or something else
abbrev pub event_of : ℕ → List Arg → RegistryEvent
event_of opcode (arg.Uint name ∷ arg.Str text ∷ arg.Uint version ∷ []) =
    if opcode == 0 then Global name version (greatest_version text) else Other
event_of opcode (arg.Uint name ∷ []) = if opcode == 1 then Remove name else Other
event_of opcode _ = Other

-- whether an event has a version
abbrev pub has_version : RegistryEvent → Bool
has_version (Global name version most) = true
has_version _ = false

-- the message with another last word, which is a global's version
abbrev pub with_version : List ℕ → ℕ → List ℕ
with_version message version = take (length message - 4) message ++ word_bytes version

-- a global that is shown, at the greatest version that is shown, and one that isn't
abbrev pub view_global : List RegistryGlobal → RegistryGlobal → List ℕ → ℕ → Option ℕ → View
view_global hidden pair message version None =
    record { shown = None; hidden = with_pair hidden pair }
view_global hidden pair message version (Some most) =
    record {
      shown = Some (if nat_le version most then message else with_version message most);
      hidden = without_pair hidden pair;
    }

-- a global that is gone is not shown where it was hidden
abbrev pub view_remove : List RegistryGlobal → RegistryGlobal → List ℕ → View
view_remove hidden pair message =
    if is_hidden hidden pair then record { shown = None; hidden = without_pair hidden pair }
    else record { shown = Some message; hidden = hidden }

-- an event of a registry
abbrev pub view_event : List RegistryGlobal → List ℕ → RegistryEvent → View
view_event hidden message (Global name version most) =
    view_global hidden (object_of message, name) message version most
view_event hidden message (Remove name) = view_remove hidden (object_of message, name) message
view_event hidden message Other = record { shown = Some message; hidden = hidden }

-- what a registry's event of these arguments tells, if they are good
abbrev pub event_by_row : ℕ → List ℕ → Option SignatureForm → RegistryEvent
event_by_row opcode bytes None = Other
event_by_row opcode bytes (Some form) =
    if is_none (args_fault form.slots bytes) then event_of opcode (args_in form.slots bytes)
    else Other

-- what a registry's event tells, if its arguments are good
abbrev pub registry_event : List ℕ → RegistryEvent
registry_event message =
    event_by_row (opcode_of message) (drop 8 message)
    (signature WlRegistry true (opcode_of message))

-- what an event tells, if its object is a registry
abbrev pub event_in : Tracked → List ℕ → RegistryEvent
event_in objects message =
    if is_registry (entry_at objects (object_of message)) then registry_event message else Other

-- an event, of a registry or of another object
abbrev pub view : ObjectsState → List ℕ → View
view state message = view_event state.hidden message (event_in state.tracked message)

-- goes on after one message, with what is shown of it if it is an event
abbrev pub shown_then :
    Result Admission ObjectFault → Way → List RegistryGlobal → List ℕ
    → (ObjectsState → List (List ℕ)) → List (List ℕ)
shown_then (Err fault) way hidden message next = []
shown_then (Ok done) Request hidden message next =
    next (record { tracked = done.objects; hidden = hidden })
shown_then (Ok done) Event hidden message next =
    let seen = view (record { tracked = done.objects; hidden = hidden }) message in
    option_to_list seen.shown ++ next (record { tracked = done.objects; hidden = seen.hidden })

-- the events that are shown, of messages in the order in which they pass
abbrev pub visible : ObjectsState → List (Way × List ℕ) → List (List ℕ)
visible state [] = []
visible state (it ∷ rest) =
    shown_then (step it.0 state.tracked it.1) it.0 state.hidden it.1 (λ next. visible next rest)

-- goes on after one message with the state that it leaves, or stays where it doesn't pass
abbrev pub after_then :
    Result Admission ObjectFault → Way → ObjectsState → List ℕ → (ObjectsState → ObjectsState)
    → ObjectsState
after_then (Err fault) way state message next = state
after_then (Ok done) Request state message next =
    next (record { tracked = done.objects; hidden = state.hidden })
after_then (Ok done) Event state message next =
    next (record {
      tracked = done.objects;
      hidden =
          (view (record { tracked = done.objects; hidden = state.hidden }) message).hidden;
    })

-- the objects and the hidden pairs after messages, in the order in which they pass
abbrev pub state_after : ObjectsState → List (Way × List ℕ) → ObjectsState
state_after state [] = state
state_after state (it ∷ rest) =
    after_then (step it.0 state.tracked it.1) it.0 state it.1 (λ next. state_after next rest)
