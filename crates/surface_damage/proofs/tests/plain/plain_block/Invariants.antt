use Rattle.std.proofs.Common.{◌≡◌, ◌+◌, ◌*◌, false}
use Rattle.surface_damage.specs.Images.{in_pixels, any_below}
use Rattle.surface_damage.specs.Views.{some_covers}
use Rattle.surface_damage.proofs.tests.plain.plain_block.Given as goal

abbrev pub invariant-loop-k : goal.invariant-loop-k
invariant-loop-k l = any_below (λ k. in_pixels l.view.image (some_covers l.view l.damages) (64 * l.block + k)) l.k ≡ false
