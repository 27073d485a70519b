use Rattle.std.proofs.Common.{◌∙◌, ◌&&◌, eqb, arith, ap}
use Rattle.block_intervals.specs.Sets.{has, lies_within}
use Rattle.surface_damage.proofs.ImageLemmas.{none_added, no_row, more_added, row_joined, added_same}
use Rattle.surface_damage.proofs.image.Image.add_rows.Goals as goal

pub loop-row-init : goal.loop-row-init
loop-row-init c = λ block.
    none_added c.args.self (λ bx by. lies_within c.args.rows.first c.args.rows.first by && has bx c.args.columns.now) block (has block c.args.blocks.now) (λ bx by w h. no_row c.args.columns.now c.args.rows.first bx by)

pub loop-row-preserved : goal.loop-row-preserved
loop-row-preserved c = λ block.
    more_added c.args.self (λ bx by. lies_within c.args.rows.first c.loop-row.row by && has bx c.args.columns.now) (λ bx by. eqb by c.loop-row.row && has bx c.args.columns.now) _ block (has block c.args.blocks.now) _ _
    (λ bx by w h. row_joined c.args.columns.now c.args.rows.first c.loop-row.row bx by c.loop-row.auto.row) (c.loop-row.invariant block) (c.in_ok-add_row.ensures block)
