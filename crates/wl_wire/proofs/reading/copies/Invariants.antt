use Rattle.std.proofs.Common.{◌≡◌, take, map}
use Rattle.wl_wire.specs.ArgSights.{seen_arg}
use Rattle.wl_wire.proofs.reading.copies.Given as goal

abbrev pub invariant-views : goal.invariant-views
invariant-views l = l.list ≡ map seen_arg (take l.view-index l.view-items)
