use Rattle.std.proofs.Common.{◌∙◌, ap, sym}
use Rattle.std.proofs.lemmas.List.{take_all}
use Rattle.block_intervals.proofs.EndLemmas.{ends_by_blocks_law}
use Rattle.surface_damage.specs.Areas.{some_column}
use Rattle.surface_damage.proofs.SweepLemmas.{columns_within}
use Rattle.surface_damage.proofs.sweep.columns_of.Goals as goal

pub returns-clause-within : goal.returns-clause-within
returns-clause-within c =
    (ends_by_blocks_law c.loop-area.columns c.args.image.width c.loop-area.invariant.rises).1
    (λ bx is. columns_within c.args.image c.args.areas.now c.requires.parts bx
    (ap (λ areas. some_column areas bx) (sym (take_all c.loop-area.area-index c.args.areas.now c.loop-area-test.false)) ∙ sym (c.loop-area.invariant.has_columns bx) ∙ is))
