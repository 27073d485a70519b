use Rattle.proxy_trail.specs.Kept.{state_of}
use Rattle.proxy_trail.proofs.Giving.{none_of, down_kept}
use Rattle.proxy_trail.proofs.trail.Trail.link_down.Goals as goal

pub invariant_of-self : goal.invariant_of-self
invariant_of-self c = down_kept (state_of c.self.inside.proxy c.self.inside.book c.self.inside.fault) c.link_down.new.self c.close_room.new.self c.self.invariant.keeps (none_of c.self.inside.fault c.if-is_some.ensures) c.link_down.ensures c.close_room.ensures
