use Rattle.std.proofs.Common.{◌+◌}
use Rattle.trail_records.specs.Noting.{trail_of}
use Rattle.trail_records.proofs.Weights.{counts_weighed}
use Rattle.trail_records.proofs.book.Book.add_given.Goals as goal

pub invariant_of-self : goal.invariant_of-self
invariant_of-self c =
    counts_weighed c.self.inside.trail.accepted c.self.inside.trail.acknowledged (c.self.inside.trail.given + 1) c.self.inside.weight (trail_of c.self.inside.trail) c.self.invariant
