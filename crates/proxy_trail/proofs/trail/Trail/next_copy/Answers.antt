use Rattle.proxy_trail.specs.Kept.{state_of}
use Rattle.proxy_trail.proofs.Giving.{none_of, lent_kept}
use Rattle.proxy_trail.proofs.trail.Trail.next_copy.Goals as goal

pub invariant_of-self : goal.invariant_of-self
invariant_of-self c =
    lent_kept (state_of c.self.inside.proxy c.self.inside.book c.self.inside.fault) c.self.inside.up c.next_copy.new.self c.close_room.new.self c.self.invariant.keeps (none_of c.self.inside.fault c.if-is_some.ensures) (c.self.invariant.here (none_of c.self.inside.fault c.if-is_some.ensures)) c.next_copy.ensures.rest c.close_room.ensures
