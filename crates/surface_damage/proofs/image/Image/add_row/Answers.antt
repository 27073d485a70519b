use Rattle.std.proofs.Common.{◌∙◌, ◌&&◌, eqb, arith, ap, take}
use Rattle.std.proofs.lemmas.List.{take_all}
use Rattle.block_intervals.specs.Sets.{has}
use Rattle.surface_damage.specs.Images.{in_pixels, holds}
use Rattle.surface_damage.proofs.ImageLemmas.{none_added, no_run, run_added, run_lies, added_same}
use Rattle.surface_damage.proofs.image.Image.add_row.Goals as goal

pub loop-run-init : goal.loop-run-init
loop-run-init c = λ block.
    none_added c.args.self (λ bx by. eqb by c.args.row && has bx (take 0 c.args.columns.now)) block (has block c.args.blocks.now) (λ bx by w h. no_run c.args.columns.now c.args.row bx by)

pub loop-run-preserved : goal.loop-run-preserved
loop-run-preserved c = λ block.
    run_added c.args.self c.args.told c.args.row c.row_start-start.result c.args.columns.now c.loop-run.run-index _ c.from-first.result c.from-end.result block (has block c.args.blocks.now) _ _
    c.requires.lies c.requires.in_image c.row_start-start.ensures.start c.requires.rises c.requires.within c.loop-run-test.true c.from-first.ensures c.from-end.ensures (c.loop-run.invariant block) (c.in_ok-add_bytes.ensures block)

pub returns : goal.returns
returns c = λ block.
    added_same c.args.self (λ bx by. eqb by c.args.row && has bx (take c.loop-run.run-index c.args.columns.now)) (λ bx by. eqb by c.args.row && has bx c.args.columns.now) block (has block c.args.blocks.now) (has block c.loop-run.blocks)
    (λ bx by w h. ap (λ runs. eqb by c.args.row && has bx runs) (take_all c.loop-run.run-index c.args.columns.now c.loop-run-test.false)) (c.loop-run.invariant block)

pub add_bytes-requires-clause-some : goal.add_bytes-requires-clause-some
add_bytes-requires-clause-some c =
    omega (arith, run_lies c.args.columns.now c.args.self.width c.loop-run.run-index (record { first = 0; end = 0 }) c.requires.rises c.requires.within c.loop-run-test.true)

pub add_bytes-requires-clause-small : goal.add_bytes-requires-clause-small
add_bytes-requires-clause-small c =
    omega (arith, run_lies c.args.columns.now c.args.self.width c.loop-run.run-index (record { first = 0; end = 0 }) c.requires.rises c.requires.within c.loop-run-test.true)
