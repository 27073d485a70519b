use Rattle.std.proofs.Common.{arith}
use Rattle.ack_ring.proofs.RingCounts.{held_bound}
use Rattle.ack_ring.proofs.ring.Ring.push.Goals as goal

pub overflow_add-self : goal.overflow_add-self
overflow_add-self c = omega (arith, held_bound _ c.self.invariant.sound)
