use Rattle.std.proofs.Common.{ap, ◌∙◌}
use Rattle.std.specs.Prelude.{sum_by}
use Rattle.side_model.specs.Books.{Book, spelled}
use Rattle.trail_records.specs.Noting.{trail_of}
use Rattle.trail_records.proofs.Weights.{made_weighed}
use Rattle.trail_records.proofs.book.Book.note_group.Goals as goal

pub invariant_of-self-2 : goal.invariant_of-self-2
invariant_of-self-2 c =
    made_weighed c.args.frames c.args.copies c.self.inside.weight (sum_by spelled c.as_slice.result.now) c.in_ok-weight.weight c.len.result c.in_ok-weight-2.weight (trail_of c.self.inside.trail) c.push_group.new.made c.push_group.new.copied
    c.in_ok-push_group.ensures.made c.in_ok-push_group.ensures.copied (ap (λ (b : Book). b.trail.lines.room) c.self.view_is ∙ c.requires.closed) c.self.invariant c.in_ok-weight.ensures (ap (sum_by spelled) c.as_slice.ensures)
    c.in_ok-weight-2.ensures c.len.ensures
