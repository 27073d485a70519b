use Rattle.surface_damage.proofs.DueLemmas.{part_after}
use Rattle.surface_damage.proofs.surface.Surface.add_image.Goals as goal

pub returns-in-Some : goal.returns-in-Some
returns-in-Some c =
    part_after c.add_since.result c.view-view.result c.args.self.now c.args.key c.args.buffer.now c.args.told c.in-Some.back c.geometry.result c.args.blocks.now c.add_since.new.blocks
    c.view-view.ensures.view c.geometry.ensures c.in-Some.ensures.since c.add_since.ensures
