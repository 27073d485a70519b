-- It stands where a copy is lent.
use Rattle.side_model.specs.Events.{Lent}
use Rattle.side_model.specs.Steps.{step}
use Rattle.side_model.proofs.Parts.{same_step}
use Rattle.proxy_core.proofs.Keepings.{rests_lent}
use Rattle.proxy_core.proofs.Standings.{stands_after}
use Rattle.proxy_core.proofs.proxy.Proxy.next_copy.Goals as goal

pub invariant_of-self : goal.invariant_of-self
invariant_of-self c =
    let s = c.self.inside.machine in
    stands_after s (step Lent s) c.next_copy.new.self c.self.invariant (rests_lent s) (same_step Lent s).fault c.next_copy.ensures.rest
