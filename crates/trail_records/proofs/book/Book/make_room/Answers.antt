use Rattle.std.proofs.Common.{arith}
use Rattle.trail_records.specs.Noting.{trail_of}
use Rattle.trail_records.proofs.Weights.{room_weighed}
use Rattle.trail_records.proofs.book.Book.make_room.Goals as goal

pub invariant_of-self-2 : goal.invariant_of-self-2
invariant_of-self-2 c =
    room_weighed c.args.count c.self.inside.weight (trail_of c.self.inside.trail) c.make_room.new.self c.in_ok-make_room.ensures.ok c.self.invariant (omega (arith, c.in_ok-with_bytes.ensures))
