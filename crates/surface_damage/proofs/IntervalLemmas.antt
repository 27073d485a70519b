-- Lemmas on stretches of places: scaled, and cut off at the end of an image.
use Rattle.std.proofs.Common.{◌≡◌, ℕ, ◌*◌, ◌/◌, ◌<◌, ◌≤◌, ◌&&◌, min, leb, ltb, arith, ap, ◌∙◌, sym, ⊎_elim}
use Rattle.std.proofs.Math.Nat.{div-lt_iff_lt-mul, le-div_iff_mul-le}
use Rattle.std.proofs.lemmas.Bool.{lt-ltb, le-ltb, le-leb, lt-leb, cases_lt}
use Rattle.block_intervals.specs.Sets.{lies_within}

-- a scaled bound, cut off, bounds a place from below where the bound does so at the place's number
leb_scaled : (first s count n : ℕ) → 0 < s → n < count → leb (min (first * s) count) n ≡ leb first (n / s)
leb_scaled first s count n some l =
    let iff = le-div_iff_mul-le {k = s} {x = first} {y = n} some in
    ⊎_elim
    (λ below. let far : n < first * s = ⊎_elim (λ t. t) (λ t. absurd (let u : first ≤ n / s = iff.1 t in omega arith)) (cases_lt n (first * s)) in
    lt-leb _ _ (omega arith) ∙ sym (lt-leb first (n / s) below))
    (λ from. let near : first * s ≤ n = iff.0 from in le-leb _ _ (omega arith) ∙ sym (le-leb first (n / s) from))
    (cases_lt (n / s) first)

-- and from above
ltb_scaled : (end s count n : ℕ) → 0 < s → n < count → ltb n (min (end * s) count) ≡ ltb (n / s) end
ltb_scaled end s count n some l =
    let iff = div-lt_iff_lt-mul {k = s} {x = n} {y = end} some in
    ⊎_elim
    (λ below. let near : n < end * s = iff.0 below in lt-ltb _ _ (omega arith) ∙ sym (lt-ltb (n / s) end below))
    (λ from. let far : end * s ≤ n = ⊎_elim (λ t. absurd (let u : n / s < end = iff.1 t in omega arith)) (λ t. t) (cases_lt n (end * s)) in
    le-ltb _ _ (omega arith) ∙ sym (le-ltb (n / s) end from))
    (cases_lt (n / s) end)

pub lies_scaled : (first end s count n : ℕ) → 0 < s → n < count → lies_within (min (first * s) count) (min (end * s) count) n ≡ lies_within first end (n / s)
lies_scaled first end s count n some l =
    ap (λ t. t && ltb n (min (end * s) count)) (leb_scaled first s count n some l) ∙ ap (λ t. leb first (n / s) && t) (ltb_scaled end s count n some l)
