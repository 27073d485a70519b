-- Items of what is left of a list.
use Rattle.std.proofs.Common.{◌≡◌, ℕ, ◌+◌, suc, zero, List, [], ◌∷◌, drop, refl, ap, ◌∙◌, arith}
use Rattle.std.specs.Prelude.{slice_get}

-- an item of what is left
pub slice_get_drop : {X : Type 0} (k : ℕ) (xs : List X) (i : ℕ) → slice_get (drop k xs) i ≡ slice_get xs (k + i)
slice_get_drop zero xs i = let e : i ≡ zero + i = omega arith in ap (slice_get xs) e
slice_get_drop (suc k) [] i = refl
slice_get_drop (suc k) (x ∷ xs) i =
    let e : suc (k + i) ≡ suc k + i = omega arith in
    slice_get_drop k xs i ∙ ap (slice_get (x ∷ xs)) e
