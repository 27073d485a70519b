use Rattle.std.proofs.Common.{◌≡◌, ◌++◌, length}
use Rattle.wl_wire.specs.Wire.{cut}
use Rattle.wl_wire.proofs.whole_messages.cut_messages.Given as goal

abbrev pub invariant-messages : goal.invariant-messages
invariant-messages l = cut l.fn.bytes ≡ l.list ++ cut l.rest

abbrev pub decreases-messages : goal.decreases-messages
decreases-messages l = length l.rest
