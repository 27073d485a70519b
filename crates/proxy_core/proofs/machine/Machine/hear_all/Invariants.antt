-- The events that were due led here, and what holds of a proxy holds; each frame heard takes bytes.
use Rattle.proxy_core.specs.Hearing.{unread_left}
use Rattle.proxy_core.proofs.Phases.{IsHearing}
use Rattle.proxy_core.proofs.machine.Machine.hear_all.Given as goal

abbrev pub invariant-frames : goal.invariant-frames
invariant-frames l = IsHearing l.fn.self l.self

abbrev pub decreases-frames : goal.decreases-frames
decreases-frames l = unread_left l.self
