use Rattle.std.proofs.Common.{◌∙◌}
use Rattle.surface_damage.proofs.FilledLemmas.{filled_is}
use Rattle.surface_damage.proofs.surface.Surface.filled_blocks.Goals as goal

pub returns : goal.returns
returns c =
    c.keep_few.ensures.few ∙ filled_is c.args.self.now c.args.standing.now c.in_ok-blocks.blocks c.requires c.keep_few.ensures.rose c.in_ok-blocks.ensures
