use Rattle.std.proofs.Common.{◌≡◌, length, take, drop, map}
use Rattle.wl_wire.specs.ArgSights.{seen_arg}
use Rattle.wl_wire.proofs.ArgLists.{SoFar}
use Rattle.wl_wire.proofs.scanning.scan.Given as goal

abbrev pub invariant-slots : goal.invariant-slots
invariant-slots l = SoFar l.fn.sig.slots (drop 8 l.fn.m) l.i l.rest (map seen_arg (take l.i l.views)) × (length l.views ≡ 8)
