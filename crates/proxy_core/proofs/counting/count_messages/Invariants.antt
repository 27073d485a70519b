-- The messages counted, and those of the rest, are those of all bytes; each has eight bytes or more.
use Rattle.std.proofs.Common.{◌≡◌, ◌+◌, ◌*◌, ◌≤◌, length}
use Rattle.wl_wire.specs.Wire.{cut}
use Rattle.proxy_core.proofs.counting.count_messages.Given as goal

abbrev pub invariant-messages : goal.invariant-messages
invariant-messages l = record {
  all : l.count + length (cut l.rest) ≡ length (cut l.fn.bytes);
  few : 8 * l.count + length l.rest ≤ length l.fn.bytes;
}

abbrev pub decreases-messages : goal.decreases-messages
decreases-messages l = length l.rest
