-- The objects of a Wayland connection as a list of entries by rising ids (the chapter "Protocol and
-- Model of Operation" of the protocol's document, its section on creating objects): what an id
-- stands for, and what one message does to an entry.
use Rattle.std.specs.Prelude.{ℕ, nat_lt, nat_le, ◌&&◌, ◌||◌, not, if◌then◌else◌, List, [], ◌∷◌}
use Rattle.std.specs.Prelude.{length, Bool, true, false, Option, Some, None, option_map}
use Rattle.std.specs.Prelude.{option_and_then, is_some, Result, Ok, Err}
use Rattle.std.specs.Ordering.{nat_cmp}
use Rattle.std.specs.BTreeMap.{insert_entry, is_at}
use Rattle.std.specs.Map.{lookup, set_value, remove_entry}
use Rattle.wl_wire.specs.declared.faults.ObjectFault.{ObjectFault}
use Rattle.wl_wire.specs.declared.faults.ObjectFault.TheVariants.{IdInUse, IdRange}
use Rattle.wl_wire.specs.declared.faults.ObjectFault.TheVariants.{UnknownInterface, TooManyObjects}
use Rattle.wl_tables.specs.declared.interface.Interface.{Interface}
use Rattle.wl_tables.specs.declared.interface.Interface.TheVariants.{WlDisplay, WlRegistry}
use Rattle.wl_tables.specs.declared.way.Way.{Way}
use Rattle.wl_tables.specs.declared.way.Way.TheVariants.{Request, Event}
use Rattle.wl_objects.specs.declared.entry.Entry.{Entry}
use Rattle.wl_objects.specs.declared.entry.NewObject.{NewObject}

-- the entries by their ids
abbrev pub Tracked : Type 0
Tracked = List (ℕ × Entry)

-- a live object of this interface
abbrev pub live_one : Interface → Entry
live_one interface = record { interface = interface; live = true }

-- at first the display alone lives, as object 1
abbrev pub first_objects : Tracked
first_objects = (1, live_one WlDisplay) ∷ []

-- the entry of an id
abbrev pub entry_at : Tracked → ℕ → Option Entry
entry_at objects id = lookup (is_at (nat_cmp id)) objects

-- the interface of an entry that lives
abbrev pub if_live : Entry → Option Interface
if_live it = if it.live then Some it.interface else None

-- the interface of the live object with an id
abbrev pub live_at : Tracked → ℕ → Option Interface
live_at objects id = option_and_then if_live (entry_at objects id)

-- a request is for a live object, an event for one that lives or was destroyed
abbrev pub may_go : Way → Entry → Bool
may_go Request it = it.live
may_go Event it = true

-- the entry that a message is for
abbrev pub addressed : Way → Tracked → ℕ → Option Entry
addressed way objects id =
    option_and_then (λ it. if may_go way it then Some it else None) (entry_at objects id)

-- the ids that a client makes
abbrev pub is_client_id : ℕ → Bool
is_client_id id = nat_le 1 id && nat_lt id 0xff000000

-- the ids that the sender of a message may make
abbrev pub is_in_range : Way → ℕ → Bool
is_in_range Request id = is_client_id id
is_in_range Event id = nat_le 0xff000000 id

-- a client's id is in use until it is deleted, a server's while its object lives
abbrev pub is_in_use : Way → Option Entry → Bool
is_in_use way None = false
is_in_use Request (Some it) = true
is_in_use Event (Some it) = it.live

-- an entry has the id already, or fewer than 65,536 are there
abbrev pub has_room : Tracked → ℕ → Bool
has_room objects id = is_some (entry_at objects id) || nat_lt (length objects) 65536

-- a live object at an id
abbrev pub with_live : Tracked → ℕ → Interface → Tracked
with_live objects id interface = insert_entry nat_cmp objects id (live_one interface)

-- a new object of this interface, where it has one, and where there is room
abbrev pub with_known : Tracked → ℕ → Option Interface → Result Tracked ObjectFault
with_known objects id None = Err UnknownInterface
with_known objects id (Some interface) =
    if has_room objects id then Ok (with_live objects id interface) else Err TooManyObjects

-- a new object, or the first cause to refuse it
abbrev pub with_new : Way → Tracked → Option NewObject → Result Tracked ObjectFault
with_new way objects None = Ok objects
with_new way objects (Some it) =
    if not (is_in_range way it.id) then Err IdRange
    else (if is_in_use way (entry_at objects it.id) then Err IdInUse
    else with_known objects it.id it.interface)

-- the entry, destroyed
abbrev pub dead : Entry → Entry
dead it = record { interface = it.interface; live = false }

abbrev pub put_entry : Tracked → ℕ → Option Entry → Tracked
put_entry objects id None = objects
put_entry objects id (Some it) = set_value (is_at (nat_cmp id)) objects it

-- the object is destroyed where the message says so
abbrev pub with_destroyed : Bool → ℕ → Tracked → Tracked
with_destroyed false id objects = objects
with_destroyed true id objects = put_entry objects id (option_map dead (entry_at objects id))

-- a client's id is free again
abbrev pub with_deleted : Option ℕ → Tracked → Tracked
with_deleted None objects = objects
with_deleted (Some id) objects =
    if is_client_id id then remove_entry (is_at (nat_cmp id)) objects else objects

-- whether a registry stands at an id
abbrev pub is_wl_registry : Interface → Bool
is_wl_registry WlRegistry = true
is_wl_registry _ = false

abbrev pub is_registry : Option Entry → Bool
is_registry None = false
is_registry (Some it) = is_wl_registry it.interface
