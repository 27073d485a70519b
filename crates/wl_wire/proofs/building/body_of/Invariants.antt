use Rattle.std.proofs.Common.{◌≡◌, take}
use Rattle.wl_wire.specs.Building.{args_bytes}
use Rattle.wl_wire.proofs.building.body_of.Given as goal

abbrev pub invariant-items : goal.invariant-items
invariant-items l = l.body ≡ args_bytes (take l.arg-index l.args)
