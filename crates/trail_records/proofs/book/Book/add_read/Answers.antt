use Rattle.std.proofs.Common.{ap, ◌∙◌, subst, sym, ◌<◌, length}
use Rattle.side_model.specs.Books.{Book}
use Rattle.trail_records.specs.Noting.{trail_of}
use Rattle.trail_records.proofs.Weights.{read_weighed}
use Rattle.trail_records.proofs.book.Book.add_read.Goals as goal

pub invariant_of-self-2 : goal.invariant_of-self-2
invariant_of-self-2 c =
    read_weighed c.args.piece.now c.self.inside.weight c.in_ok-weight.weight (trail_of c.self.inside.trail) c.add_read.new.self c.in_ok-add_read.ensures.ok
    (subst (λ (b : Book). 0 < length b.trail.lines.rows) (sym c.self.view_is) c.requires.line) (ap (λ (b : Book). b.trail.lines.room) c.self.view_is ∙ c.requires.closed) c.self.invariant c.in_ok-weight.ensures
