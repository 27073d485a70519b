use Rattle.std.proofs.Common.{arith}
use Rattle.trail_records.proofs.RowLemmas.{less_room}
use Rattle.trail_records.proofs.lines.LineList.close_room.Goals as goal

pub invariant_of-self : goal.invariant_of-self
invariant_of-self c = less_room 0 c.self.inside.room c.self.inside.rows.items (omega arith) c.self.invariant
