use Rattle.proxy_trail.specs.Kept.{state_of}
use Rattle.proxy_trail.proofs.Giving.{none_of, given_before, gave_kept}
use Rattle.proxy_trail.proofs.trail.Trail.peer_out.Goals as goal

pub record_given-requires : goal.record_given-requires
record_given-requires c = given_before (state_of c.self.inside.proxy c.self.inside.book c.self.inside.fault) c.peer_out-item.result c.close_room.new.self c.self.invariant.keeps (none_of c.self.inside.fault c.if-is_some.ensures) c.close_room.ensures c.peer_out-item.ensures.item

pub invariant_of-self : goal.invariant_of-self
invariant_of-self c =
    gave_kept (state_of c.self.inside.proxy c.self.inside.book c.self.inside.fault) c.self.inside.up c.peer_out-item.result c.peer_out-item.new.self c.close_room.new.self c.record_given.new.book c.self.invariant.keeps (none_of c.self.inside.fault c.if-is_some.ensures) (c.self.invariant.here (none_of c.self.inside.fault c.if-is_some.ensures)) c.close_room.ensures c.peer_out-item.ensures.item
    c.peer_out-item.ensures.rest c.record_given.ensures
