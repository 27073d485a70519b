use Rattle.std.proofs.Common.{◌-◌}
use Rattle.ack_ring.proofs.RingCounts.{HasGone}
use Rattle.ack_ring.proofs.ring.Ring.ack.Given as goal

abbrev pub invariant-loop-self : goal.invariant-loop-self
invariant-loop-self l = HasGone l.count l.initial.self l.self

abbrev pub decreases-loop-self : goal.decreases-loop-self
decreases-loop-self l = l.count - l.self.acknowledged
