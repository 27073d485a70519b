-- A number with more digits is no smaller.
use Rattle.std.proofs.Common.{ℕ, ◌+◌, ◌-◌, ◌*◌, ◌≤◌, List, [], ◌∷◌, arith}
use Rattle.script_lang.specs.Numbers.{value_after}

-- more digits make no number less
pub value_after_grows : (n : ℕ) (digits : List ℕ) → n ≤ value_after n digits
value_after_grows n [] = omega arith
value_after_grows n (digit ∷ digits) = omega (arith, value_after_grows (10 * n + (digit - 48)) digits)
