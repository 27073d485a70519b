use Rattle.std.proofs.Common.{ap, subst, sym, ◌∙◌, ◌≡◌}
use Rattle.side_model.specs.Books.{Book, weight}
use Rattle.trail_records.specs.Noting.{trail_of, cut_to}
use Rattle.trail_records.proofs.Weights.{cut_weighed}
use Rattle.trail_records.proofs.book.Book.cut_back.Goals as goal

pub invariant_of-self : goal.invariant_of-self
invariant_of-self c =
    cut_weighed c.args.lengths c.self.inside.weight (record { trail = trail_of c.self.inside.trail; order = c.self.inside.order }) c.truncate.new.self c.truncate-2.new.self c.truncate-3.new.self c.truncate.ensures c.truncate-2.ensures
    c.truncate-3.ensures (ap (λ (b : Book). b.trail.lines.room) c.self.view_is ∙ c.requires.closed) c.self.invariant
    (subst (λ (b : Book). weight (cut_to c.args.lengths b).trail ≡ c.args.lengths.weight) (sym c.self.view_is) c.requires.weight)
