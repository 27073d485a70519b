-- What bytes are once a stretch of them is replaced, and what a front of a list says of it.
use Rattle.std.proofs.Common.{◌≡◌, ℕ, ◌+◌, ◌-◌, ◌<◌, ◌≤◌, List, ◌++◌, length, get_or, take, drop, ◌⊎◌, ⊎_elim, refl, sym, ap, ◌∙◌, arith, length-append, length-drop}
use Rattle.std.proofs.lemmas.List.{length-take-le, get_or-take, get_or-drop, get_or_append_left, get_or-append_right, take-append-le, take-take, drop-take, drop_at, take_at}
use Rattle.std.specs.List.{slice_range}
use Rattle.mirror_pools.specs.Mirrors.{replaced}

module _ (start : ℕ) (piece bytes : List ℕ) (fits : start + length piece ≤ length bytes) where
  front : length (take start bytes) ≡ start
  front = length-take-le start bytes (omega (arith, fits))

  pub length-replaced : length (replaced start piece bytes) ≡ length bytes
  length-replaced =
      let first = length-append (take start bytes) (piece ++ drop (start + length piece) bytes) in
      let second = length-append piece (drop (start + length piece) bytes) in
      let rest = length-drop (start + length piece) bytes in
      omega (arith, first, second, rest, front, fits)

  -- the bytes before it
  pub take-replaced : (n : ℕ) → n ≤ start → take n (replaced start piece bytes) ≡ take n bytes
  take-replaced n le =
      take-append-le n (take start bytes) (piece ++ drop (start + length piece) bytes) (omega (arith, front, le))
      ∙ take-take n start bytes le

  -- the stretch itself
  pub range-replaced : slice_range (replaced start piece bytes) start (start + length piece) ≡ piece
  range-replaced =
      let count : (start + length piece) - start ≡ length piece = omega arith in
      ap (λ (n : ℕ). take n (drop start (replaced start piece bytes))) count
      ∙ ap (λ (xs : List ℕ). take (length piece) xs) (drop_at (take start bytes) (piece ++ drop (start + length piece) bytes) start front)
      ∙ take_at piece (drop (start + length piece) bytes) (length piece) refl

  -- every byte outside of it
  pub other-replaced : (i : ℕ) → (i < start) ⊎ (start + length piece ≤ i) → get_or (replaced start piece bytes) i 0 ≡ get_or bytes i 0
  other-replaced i apart =
      ⊎_elim
      (λ below. get_or_append_left (take start bytes) _ 0 i (omega (arith, front, below)) ∙ get_or-take start bytes i 0 below)
      (λ above.
      let skip : start + length piece + (i - start - length piece) ≡ i = omega (arith, above) in
      get_or-append_right (take start bytes) (piece ++ drop (start + length piece) bytes) start i 0 front (omega (arith, above))
      ∙ get_or-append_right piece (drop (start + length piece) bytes) (length piece) (i - start) 0 refl (omega (arith, above))
      ∙ get_or-drop (start + length piece) bytes (i - start - length piece) 0
      ∙ ap (λ (n : ℕ). get_or bytes n 0) skip)
      apart

-- lists with one front have the same stretch in it
pub range_by_front : (xs ys : List ℕ) (from to : ℕ) → from ≤ to → take to xs ≡ take to ys → slice_range xs from to ≡ slice_range ys from to
range_by_front xs ys from to le e =
    let all : from + (to - from) ≡ to = omega (arith, le) in
    sym (drop-take from (to - from) xs)
    ∙ ap (λ (n : ℕ). drop from (take n xs)) all
    ∙ ap (drop from) e
    ∙ ap (λ (n : ℕ). drop from (take n ys)) (sym all)
    ∙ drop-take from (to - from) ys
