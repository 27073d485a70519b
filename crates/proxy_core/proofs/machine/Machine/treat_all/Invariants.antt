-- The events that were due led here, and what holds of a proxy holds; each message taken takes bytes.
use Rattle.std.proofs.Common.{length}
use Rattle.proxy_core.proofs.Phases.{IsTreating}
use Rattle.proxy_core.proofs.machine.Machine.treat_all.Given as goal

abbrev pub invariant-messages : goal.invariant-messages
invariant-messages l = IsTreating l.fn.self l.self

abbrev pub decreases-messages : goal.decreases-messages
decreases-messages l = length l.self.live.sending.inlet.bytes
