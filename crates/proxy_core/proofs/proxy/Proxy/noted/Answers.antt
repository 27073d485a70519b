-- It stands where a note is given.
use Rattle.proxy_core.proofs.Standings.{told_stands}
use Rattle.proxy_core.proofs.proxy.Proxy.noted.Goals as goal

pub invariant_of-self : goal.invariant_of-self
invariant_of-self c = told_stands c.self.inside.machine c.noted.new.self c.self.invariant c.noted.ensures.rest
