use Rattle.std.proofs.Common.{◌≡◌, ℕ, ◌-◌, ◌&&◌, ◌||◌, ltb}
use Rattle.block_intervals.specs.Sets.{has}
use Rattle.surface_damage.specs.Areas.{some_holds}
use Rattle.surface_damage.specs.Images.{in_pixels, holds}
use Rattle.surface_damage.proofs.SweepLemmas.{IsSwept}
use Rattle.surface_damage.proofs.sweep.sweep.Given as goal

abbrev pub invariant-loop-row : goal.invariant-loop-row
invariant-loop-row l = record {
  swept : IsSwept l.image l.areas l.row l.active.items l.waiting;
  added : (block : ℕ) → has block l.blocks ≡ (has block l.initial.blocks || holds (in_pixels l.image (λ bx by. ltb by l.row && some_holds l.areas bx by)) block);
}

abbrev pub decreases-loop-row : goal.decreases-loop-row
decreases-loop-row l = l.image.height - l.row
