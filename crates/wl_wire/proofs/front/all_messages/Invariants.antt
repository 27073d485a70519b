use Rattle.std.proofs.Common.{◌≡◌, length}
use Rattle.wl_wire.specs.Wire.{cut_rest}
use Rattle.wl_wire.proofs.front.all_messages.Given as goal

abbrev pub invariant-messages : goal.invariant-messages
invariant-messages l = cut_rest l.rest ≡ cut_rest l.fn.bytes

abbrev pub decreases-messages : goal.decreases-messages
decreases-messages l = length l.rest
