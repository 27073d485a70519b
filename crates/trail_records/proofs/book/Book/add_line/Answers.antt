use Rattle.std.proofs.Common.{ap, ◌∙◌}
use Rattle.side_model.specs.Books.{Book}
use Rattle.trail_records.specs.Noting.{trail_of}
use Rattle.trail_records.proofs.Weights.{line_weighed}
use Rattle.trail_records.proofs.book.Book.add_line.Goals as goal

pub invariant_of-self-2 : goal.invariant_of-self-2
invariant_of-self-2 c =
    line_weighed c.args.connection c.self.inside.weight c.in_ok-weight.weight (trail_of c.self.inside.trail) c.add.new.self c.in_ok-add.ensures.ok (ap (λ (b : Book). b.trail.lines.room) c.self.view_is ∙ c.requires) c.self.invariant
    c.in_ok-weight.ensures
