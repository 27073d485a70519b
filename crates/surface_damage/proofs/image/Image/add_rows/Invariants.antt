use Rattle.std.proofs.Common.{◌≡◌, ℕ, ◌||◌, ◌&&◌}
use Rattle.block_intervals.specs.Sets.{has, lies_within}
use Rattle.surface_damage.specs.Images.{in_pixels, holds}
use Rattle.surface_damage.proofs.image.Image.add_rows.Given as goal

abbrev pub invariant-loop-row : goal.invariant-loop-row
invariant-loop-row l = (block : ℕ) → has block l.blocks ≡ (has block l.initial.blocks || holds (in_pixels l.self (λ bx by. lies_within l.fn.rows.first l.row by && has bx l.columns)) block)
