use Rattle.std.proofs.Common.{◌≡◌, ℕ, ◌<◌, ◌||◌, All, take}
use Rattle.surface_damage.specs.Areas.{some_holds, IsPart}
use Rattle.surface_damage.specs.Views.{some_covers}
use Rattle.surface_damage.proofs.view.View.add_damage.Given as goal

abbrev pub invariant-loop-damage : goal.invariant-loop-damage
invariant-loop-damage l = record {
  parts : All (IsPart l.self.image) l.areas.items;
  pixels : (bx by : ℕ) → bx < l.self.image.width → by < l.self.image.height → some_holds l.areas.items bx by ≡ (some_holds l.initial.areas.items bx by || some_covers l.self (take l.damage-index l.damages) bx by);
}
