use Rattle.std.proofs.Common.{◌≡◌, ℕ, ◌||◌, ◌&&◌, eqb, take}
use Rattle.block_intervals.specs.Sets.{has}
use Rattle.surface_damage.specs.Images.{in_pixels, holds}
use Rattle.surface_damage.proofs.image.Image.add_row.Given as goal

abbrev pub invariant-loop-run : goal.invariant-loop-run
invariant-loop-run l = (block : ℕ) → has block l.blocks ≡ (has block l.initial.blocks || holds (in_pixels l.fn.self (λ bx by. eqb by l.row && has bx (take l.run-index l.columns))) block)
