-- A product of two 32 bit numbers, computed in 64 bits.
use Rattle.std.proofs.Common.{w32, w64, ◌≡◌, ◌≤◌, ◌^◌, arith, ℤ, pos, to_z, of_z, ◌+ℤ◌, ◌*ℤ◌, ◌≤ℤ◌, ◌∙◌, mul-le-mul}
use Rattle.std.specs.Int.RustNames.{unsigned_abs, FitsSigned}
use Rattle.std.proofs.lemmas.Int.{to_z-of_z, fits_signed_mul, unsigned_abs-mul, ints}

abs_le : (a : ℤ) → FitsSigned w32 a → unsigned_abs a ≤ 2 ^ 31
abs_le a h = grind (arith, ints)

pub product_abs : (a b : ℤ) → FitsSigned w32 a → FitsSigned w32 b → unsigned_abs (a *ℤ b) ≤ 2 ^ 62
product_abs a b f g = omega (arith, unsigned_abs-mul a b, mul-le-mul (abs_le a f) (abs_le b g))

pub widened_product : (a b : ℤ) → FitsSigned w32 a → FitsSigned w32 b
    → to_z w64 (of_z w64 (to_z w64 (of_z w64 (to_z w32 (of_z w32 a))) *ℤ to_z w64 (of_z w64 (to_z w32 (of_z w32 b))))) ≡ a *ℤ b
widened_product a b f g =
    let a' : to_z w64 (of_z w64 (to_z w32 (of_z w32 a))) ≡ a = omega (arith, ints) in
    let b' : to_z w64 (of_z w64 (to_z w32 (of_z w32 b))) ≡ b = omega (arith, ints) in
    (λ i. to_z w64 (of_z w64 (a' i *ℤ b' i))) ∙ to_z-of_z w64 (a *ℤ b) (fits_signed_mul w64 a b (2 ^ 31) (2 ^ 31) (abs_le a f) (abs_le b g) (omega arith))

abs_bounds : (z : ℤ) → unsigned_abs z ≤ 2 ^ 62 → (pos 0 ≤ℤ (z +ℤ pos (2 ^ 62))) × (z ≤ℤ pos (2 ^ 62))
abs_bounds z h = (grind (arith, ints), grind (arith, ints))

pub product_bounds : (a b : ℤ) → FitsSigned w32 a → FitsSigned w32 b → (pos 0 ≤ℤ ((a *ℤ b) +ℤ pos (2 ^ 62))) × ((a *ℤ b) ≤ℤ pos (2 ^ 62))
product_bounds a b f g = abs_bounds (a *ℤ b) (product_abs a b f g)

pub widened_sum : (a p : ℤ) → FitsSigned w32 a → pos 0 ≤ℤ (p +ℤ pos (2 ^ 62)) → p ≤ℤ pos (2 ^ 62)
    → to_z w64 (of_z w64 (to_z w64 (of_z w64 (to_z w32 (of_z w32 a))) +ℤ to_z w64 (of_z w64 p))) ≡ a +ℤ p
widened_sum a p f low high = omega (arith, ints)
