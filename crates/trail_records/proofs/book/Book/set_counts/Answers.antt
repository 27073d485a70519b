use Rattle.trail_records.specs.Noting.{trail_of}
use Rattle.trail_records.proofs.Weights.{counts_weighed}
use Rattle.trail_records.proofs.book.Book.set_counts.Goals as goal

pub invariant_of-self : goal.invariant_of-self
invariant_of-self c =
    counts_weighed c.args.accepted c.args.acknowledged c.self.inside.trail.given c.self.inside.weight (trail_of c.self.inside.trail) c.self.invariant
