use Rattle.std.proofs.Common.{◌≡◌, drop}
use Rattle.std.specs.Prelude.{find}
use Rattle.std.specs.Str.{bytes_eq}
use Rattle.wl_tables.specs.Interfaces.{interface_name}
use Rattle.wl_tables.proofs.interface.named_among.Given as goal

-- none of those that were passed has the name
abbrev pub invariant-loop-interface : goal.invariant-loop-interface
invariant-loop-interface l =
    find (λ it. bytes_eq (interface_name it) l.name) l.interfaces
    ≡ find (λ it. bytes_eq (interface_name it) l.name) (drop l.interface-index l.interfaces)
