use Rattle.std.proofs.Common.{ap, ◌∙◌, length}
use Rattle.side_model.specs.Books.{Book}
use Rattle.trail_records.specs.Noting.{trail_of}
use Rattle.trail_records.proofs.Weights.{taken_weighed}
use Rattle.trail_records.proofs.book.Book.note_taken.Goals as goal

pub invariant_of-self-2 : goal.invariant_of-self-2
invariant_of-self-2 c =
    taken_weighed c.args.message (length c.bytes.result.now) c.self.inside.weight c.in_ok-weight.weight (trail_of c.self.inside.trail) c.push_taken.new.taken c.in_ok-push_taken.ensures.taken
    (ap (λ (b : Book). b.trail.lines.room) c.self.view_is ∙ c.requires) c.self.invariant c.in_ok-weight.ensures (ap length c.bytes.ensures.bytes)
