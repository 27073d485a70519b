-- Laws of the Wayland protocol's table of messages: within an interface a name tells the request or
-- the event, and a name tells the interface.
use Rattle.std.specs.Prelude.{◌≡◌, ◌↔◌, ℕ, List, Bool, Some}
use Rattle.wl_tables.specs.declared.interface.Interface.{Interface}
use Rattle.wl_tables.specs.Interfaces.{interface_name, interface_of}
use Rattle.wl_tables.specs.Messages.{message_name, opcode_of}

-- the message of this name has this opcode, just where the message of this opcode has this name
abbrev pub OpcodeTellsName : Type 0
OpcodeTellsName =
    (interface : Interface) (events : Bool) (opcode : ℕ) (name : List ℕ)
    → (opcode_of interface events name ≡ Some opcode) ↔
    (message_name interface events opcode ≡ Some name)

-- this interface is found by this name, just where it has this name
abbrev pub InterfaceTellsName : Type 0
InterfaceTellsName =
    (interface :
    Interface) (name : List ℕ)
    → (interface_of name ≡ Some interface) ↔ (interface_name interface ≡ name)
