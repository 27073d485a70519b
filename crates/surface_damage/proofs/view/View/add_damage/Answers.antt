use Rattle.surface_damage.specs.Areas.{holds_pixel, some_holds}
use Rattle.surface_damage.proofs.ViewLemmas.{covers_more}
use Rattle.surface_damage.proofs.view.View.add_damage.Goals as goal

pub loop-damage-preserved : goal.loop-damage-preserved
loop-damage-preserved c = record {
  parts = c.in_ok-add_area.ensures.parts;
  pixels = λ bx by across down.
      covers_more c.args.self c.args.damages.now c.loop-damage.damage-index _ bx by (some_holds c.args.areas.now.items bx by) _ _ (holds_pixel c.damaged.result bx by) c.loop-damage-test.true
      (c.loop-damage.invariant.pixels bx by across down) (c.damaged.ensures.pixels bx by across down) (c.in_ok-add_area.ensures.pixels bx by);
}
