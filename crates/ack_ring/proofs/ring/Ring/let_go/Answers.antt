use Rattle.std.proofs.Common.{◌∙◌, sym}
use Rattle.ack_ring.proofs.RingCounts.{gone}
use Rattle.ack_ring.proofs.ring.Ring.let_go.Goals as goal

pub invariant_of-self : goal.invariant_of-self
invariant_of-self c = gone _ _ _ _ _ _ c.self.invariant (sym c.pop_front.ensures.value ∙ c.in-Some.is) c.len.ensures c.pop_front.ensures.items
