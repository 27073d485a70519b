use Rattle.std.proofs.Common.{◌≡◌, ◌≤◌, ◌+◌, length, take}
use Rattle.wl_wire.specs.declared.message.TheConstants.{LONGEST_MESSAGE}
use Rattle.wl_wire.specs.Building.{args_bytes}
use Rattle.wl_wire.proofs.lengths.fits_message.Given as goal

abbrev pub invariant-items : goal.invariant-items
invariant-items l = (l.size ≡ 8 + length (args_bytes (take l.arg-index l.arg-items))) × (l.size ≤ LONGEST_MESSAGE)
