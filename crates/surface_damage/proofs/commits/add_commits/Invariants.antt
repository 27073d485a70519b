use Rattle.std.proofs.Common.{◌≡◌, ℕ, ◌<◌, ◌||◌, All, take}
use Rattle.std.specs.List.{flat_map}
use Rattle.surface_damage.specs.Areas.{some_holds, IsPart}
use Rattle.surface_damage.specs.History.{Committed}
use Rattle.surface_damage.specs.Views.{some_covers}
use Rattle.surface_damage.proofs.commits.add_commits.Given as goal

abbrev pub invariant-loop-commit : goal.invariant-loop-commit
invariant-loop-commit l = record {
  parts : All (IsPart l.view.image) l.areas.items;
  pixels : (bx by : ℕ) → bx < l.view.image.width → by < l.view.image.height → some_holds l.areas.items bx by ≡ (some_holds l.initial.areas.items bx by || some_covers l.view (flat_map (λ (c : Committed). c.damage) (take l.commit-index l.commits)) bx by);
}
