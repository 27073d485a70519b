use Rattle.std.proofs.Common.{subst, sym, ◌<◌, ◌≤◌, length}
use Rattle.side_model.specs.Books.{Book}
use Rattle.trail_records.specs.Noting.{trail_of}
use Rattle.trail_records.proofs.Weights.{written_weighed}
use Rattle.trail_records.proofs.book.Book.add_written.Goals as goal

pub invariant_of-self : goal.invariant_of-self
invariant_of-self c =
    written_weighed c.args.bytes.now c.self.inside.weight (trail_of c.self.inside.trail) c.add_written.new.self c.add_written.ensures
    (subst (λ (b : Book). 0 < length b.trail.lines.rows) (sym c.self.view_is) c.requires.line) (subst (λ (b : Book). length c.args.bytes.now ≤ b.trail.lines.room) (sym c.self.view_is) c.requires.room) c.self.invariant
