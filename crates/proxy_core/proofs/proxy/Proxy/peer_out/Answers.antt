-- It stands where an item is given.
use Rattle.side_model.specs.Events.{Gave}
use Rattle.side_model.specs.Steps.{step}
use Rattle.side_model.proofs.Parts.{same_step}
use Rattle.proxy_core.proofs.Keepings.{rests_gave}
use Rattle.proxy_core.proofs.Standings.{stands_after}
use Rattle.proxy_core.proofs.proxy.Proxy.peer_out.Goals as goal

pub invariant_of-self : goal.invariant_of-self
invariant_of-self c =
    let s = c.self.inside.machine in
    stands_after s (step Gave s) c.peer_out.new.self c.self.invariant (rests_gave s) (same_step Gave s).fault c.peer_out.ensures.rest
