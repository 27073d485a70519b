use Rattle.std.proofs.Common.{◌∙◌, ◌||◌, ap}
use Rattle.surface_damage.specs.Areas.{some_holds}
use Rattle.surface_damage.specs.History.{Committed}
use Rattle.surface_damage.specs.Views.{some_covers}
use Rattle.surface_damage.proofs.ViewLemmas.{commits_more}
use Rattle.surface_damage.proofs.commits.add_commits.Goals as goal

pub loop-commit-preserved : goal.loop-commit-preserved
loop-commit-preserved c = record {
  parts = c.in_ok-add_damage.ensures.parts;
  pixels = λ bx by across down.
      commits_more c.args.view c.args.commits.now c.loop-commit.commit-index c.commit-item.result bx by (some_holds c.args.areas.now.items bx by) _ _ c.loop-commit-test.true (c.loop-commit.invariant.pixels bx by across down)
      (c.in_ok-add_damage.ensures.pixels bx by across down ∙ ap (λ t. some_holds c.loop-commit.areas.items bx by || some_covers c.args.view t bx by) (c.damage.ensures ∙ ap (λ (one : Committed). one.damage) c.commit-item.is));
}
