use Rattle.std.proofs.Common.{arith}
use Rattle.trail_records.specs.Noting.{trail_of}
use Rattle.trail_records.proofs.Weights.{room_weighed}
use Rattle.trail_records.proofs.book.Book.close_room.Goals as goal

pub invariant_of-self : goal.invariant_of-self
invariant_of-self c =
    room_weighed 0 c.self.inside.weight (trail_of c.self.inside.trail) c.close_room.new.self c.close_room.ensures c.self.invariant (omega (arith, c.self.invariant.exact, c.self.invariant.light))
