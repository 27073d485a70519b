use Rattle.std.proofs.Common.{◌≡◌, ◌∙◌, ◌≤◌, ◌<◌, ℕ, List, arith, ltb, ◌&&◌, All, ap, subst}
use Rattle.std.proofs.lemmas.Bool.Decides.{nat_tests}
use Rattle.block_intervals.specs.Sets.{has, lies_within}
use Rattle.surface_damage.specs.declared.area.Area.{Area}
use Rattle.surface_damage.specs.Areas.{some_holds, some_column}
use Rattle.surface_damage.proofs.ImageLemmas.{none_added, more_added, added_same}
use Rattle.surface_damage.proofs.SweepLemmas.{swept_first, swept_kept, swept_next, swept_all, band_same, band_joined, band_some}
use Rattle.surface_damage.proofs.sweep.sweep.Goals as goal

pub loop-row-init : goal.loop-row-init
loop-row-init c = record {
  swept = swept_first c.args.image c.args.areas.now c.new-active.result.items c.new-active.ensures.items c.requires.parts c.requires.order;
  added = λ block. none_added c.args.image (λ bx by. ltb by 0 && some_holds c.args.areas.now bx by) block (has block c.args.blocks.now) (λ bx by w h. grind (arith, nat_tests));
}

pub take_up-requires-clause-active : goal.take_up-requires-clause-active
take_up-requires-clause-active c =
    swept_kept c.args.image c.args.areas.now c.loop-row.active.items c.loop-row.waiting.now _ c.loop-row.row c.loop-row.invariant.swept c.drop_ended.ensures

pub loop-row-preserved : goal.loop-row-preserved
loop-row-preserved c =
    let image = c.args.image in
    let areas = c.args.areas.now in
    let row = c.loop-row.row in
    let end = c.band_end.result in
    let active = c.take_up.new.active.items in
    let left = c.in_ok-waiting.waiting.now in
    let taken_up = c.in_ok-waiting.ensures in
    let below : row < end = band_some row end image.height c.deref.result.now active left c.deref.ensures.value c.band_end.ensures.least c.loop-row-test.true taken_up.active.unended taken_up.waiting.later in
    let unended : All (λ area. end ≤ area.rows.end) active = subst (λ (list : List Area). All (λ area. end ≤ area.rows.end) list) c.deref.ensures.value c.band_end.ensures.active in
    let columns_are : (bx : ℕ) → has bx c.runs.result.now ≡ some_column active bx =
    λ bx. ap (has bx) c.runs.ensures.runs ∙ c.in_ok-columns.ensures.has bx ∙ ap (λ list. some_column list bx) c.deref-in-loop-row.ensures.value in
    record {
      swept = swept_next image areas c.loop-row.active.items c.loop-row.waiting.now c.drop_ended.new.areas.items active left row end c.loop-row.invariant.swept c.drop_ended.ensures taken_up.active taken_up.waiting taken_up.same (omega arith) c.band_end.ensures.waiting;
      added = λ block.
          more_added image (λ bx by. ltb by row && some_holds areas bx by) (λ bx by. lies_within row end by && has bx c.runs.result.now) (λ bx by. ltb by end && some_holds areas bx by) block (has block c.args.blocks.now) _ _
          (λ bx by w h. band_joined areas c.runs.result.now row end bx by (omega arith)
          (λ from till. band_same image areas c.loop-row.active.items c.loop-row.waiting.now c.drop_ended.new.areas.items active left c.runs.result.now row end bx by c.loop-row.invariant.swept c.drop_ended.ensures taken_up.active taken_up.same unended c.band_end.ensures.waiting columns_are from till))
          (c.loop-row.invariant.added block) (c.in_ok-add_rows.ensures block);
    }

pub add_rows-requires-clause-order : goal.add_rows-requires-clause-order
add_rows-requires-clause-order c =
    let taken_up = c.in_ok-waiting.ensures in
    let below : c.loop-row.row < c.band_end.result = band_some c.loop-row.row c.band_end.result c.args.image.height c.deref.result.now c.take_up.new.active.items c.in_ok-waiting.waiting.now c.deref.ensures.value c.band_end.ensures.least c.loop-row-test.true taken_up.active.unended taken_up.waiting.later in
    omega arith

pub loop-row-smaller : goal.loop-row-smaller
loop-row-smaller c =
    let taken_up = c.in_ok-waiting.ensures in
    let below : c.loop-row.row < c.band_end.result = band_some c.loop-row.row c.band_end.result c.args.image.height c.deref.result.now c.take_up.new.active.items c.in_ok-waiting.waiting.now c.deref.ensures.value c.band_end.ensures.least c.loop-row-test.true taken_up.active.unended taken_up.waiting.later in
    omega arith

pub returns : goal.returns
returns c = λ block.
    added_same c.args.image (λ bx by. ltb by c.loop-row.row && some_holds c.args.areas.now bx by) (some_holds c.args.areas.now) block (has block c.args.blocks.now) (has block c.loop-row.blocks)
    (λ bx by w h. swept_all c.args.image.height c.loop-row.row by (some_holds c.args.areas.now bx by) c.loop-row-test.false h) (c.loop-row.invariant.added block)
