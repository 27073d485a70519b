use Rattle.std.proofs.Common.{ap, arith}
use Rattle.ack_ring.proofs.RingCounts.{none_gone, gone_more, some_left, all_gone}
use Rattle.ack_ring.proofs.ring.Ring.ack.Goals as goal

pub loop-self-init : goal.loop-self-init
loop-self-init c = none_gone _ _ c.requires.told

pub let_go-requires : goal.let_go-requires
let_go-requires c = some_left _ _ _ c.loop-self.invariant (omega (arith, ap (λ r. r.acknowledged) c.self.view_is)) c.requires.made

pub loop-self-preserved : goal.loop-self-preserved
loop-self-preserved c = gone_more _ _ _ _ c.loop-self.invariant (omega (arith, ap (λ r. r.acknowledged) c.self.view_is)) c.let_go.ensures

pub returns : goal.returns
returns c = all_gone _ _ _ c.loop-self.invariant (omega (arith, ap (λ r. r.acknowledged) c.self.view_is))
