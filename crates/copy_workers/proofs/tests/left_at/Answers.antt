use Rattle.std.proofs.Common.{◌∙◌}
use Rattle.copy_workers.proofs.tests.left_at.Goals as goal

pub leftovers-requires : goal.leftovers-requires
leftovers-requires g c =
    (c.in_ok-spent.ensures.count ∙ c.requires.count, c.in_ok-spent.ensures.crew c.args.closed.crew c.requires.crew)
