use Rattle.trail_records.proofs.lines.LineList.add_read.Goals as goal

pub invariant_of-self : goal.invariant_of-self
invariant_of-self c = c.read_on_last.ensures.room c.self.inside.room c.self.invariant
