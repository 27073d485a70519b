use Rattle.std.proofs.Common.{◌∙◌, ◌++◌, ap, take}
use Rattle.std.specs.List.{flat_map}
use Rattle.std.proofs.lemmas.Result.{on_ok_weaker}
use Rattle.block_intervals.specs.Sets.{has}
use Rattle.surface_damage.specs.Areas.{some_holds}
use Rattle.surface_damage.specs.DueBytes.{damage_since}
use Rattle.surface_damage.specs.History.{SurfaceState, Committed}
use Rattle.surface_damage.specs.Views.{some_covers}
use Rattle.surface_damage.proofs.DueLemmas.{since_pixels}
use Rattle.surface_damage.proofs.ImageLemmas.{added_same}
use Rattle.surface_damage.proofs.surface.Surface.add_since.Goals as goal

pub returns : goal.returns
returns c =
    let view = c.args.view in
    let s = c.args.self.now in
    let back = c.args.back in
    let pending = c.deref.result.now in
    let commits = c.deref-2.result.now in
    let areas = c.add_commits.new.areas.items in
    on_ok_weaker c.add_areas.result
    (λ added block.
    added_same view.image (some_holds areas) (some_covers view (damage_since s back)) block (has block c.args.blocks.now) (has block c.add_areas.new.blocks)
    (λ bx by across down.
    since_pixels view pending (flat_map (λ (one : Committed). one.damage) (take back commits)) c.new-areas.result.items c.add_damage.new.areas.items areas bx by c.new-areas.ensures.items
    (c.in_ok-add_damage.ensures.pixels bx by across down) (c.in_ok-add_commits.ensures.pixels bx by across down)
    ∙ ap (λ list. some_covers view (list ++ flat_map (λ (one : Committed). one.damage) (take back commits)) bx by) (c.deref.ensures.value ∙ ap (λ (t : SurfaceState). t.pending) c.self.view_is)
    ∙ ap (λ list. some_covers view (s.pending ++ flat_map (λ (one : Committed). one.damage) (take back list)) bx by) (c.deref-2.ensures.value ∙ ap (λ (t : SurfaceState). t.commits) c.self.view_is))
    (added block))
    c.add_areas.ensures
