-- What the change of one hand does to all that the hands put or took, to the sum of their parts, and to the hands that are spent.
use Rattle.std.proofs.Common.{◌≡◌, ℕ, zero, suc, ◌+◌, ◌≤◌, List, [], ◌∷◌, ◌++◌, set, sum_by, flat_map, refl, sym, ap, ◌∙◌, subst, IsPermutation, append_assoc, append-nil, arith}
use Rattle.std.proofs.lemmas.List.Sums.{sum_by-cons}
use Rattle.std.proofs.lemmas.List.Sorted.{IsPermutation-append_comm, IsPermutation-append_left, IsPermutation-append_right}
use mathlib.Core.Option.{some, some-injective, some-ne-none}
use lib.ListN.{get_elem?}
use Rattle.copy_workers.specs.declared.hands.Hand.{Hand}
use Rattle.copy_workers.specs.Hands.{IsEmptyIfSpent, AllEmptyIfSpent}
use Rattle.copy_workers.proofs.Shuffles.{via, along, turn}

module _ {T : Type 0} where
  abbrev pub parts_of : List (Hand T) → ℕ
  parts_of hands = sum_by (λ (h : Hand T). h.parts) hands

  module _ (f : Hand T → List T) where
    -- what one hand gains, all gain
    pub gains : (hands : List (Hand T)) (port : ℕ) (v w : Hand T) (more : List T) → get_elem? hands port ≡ some v
        → IsPermutation (f v ++ more) (f w) → IsPermutation (flat_map f hands ++ more) (flat_map f (set hands port w))
    gains [] port v w more at is = absurd (some-ne-none v (sym at))
    gains (h ∷ hands) zero v w more at is =
        let mine : IsPermutation (f h ++ more) (f w) = subst (λ (u : Hand T). IsPermutation (f u ++ more) (f w)) (sym (some-injective h v at)) is in
        via (turn (f h) (flat_map f hands) more) (IsPermutation-append_left (flat_map f hands) (f h ++ more) (f w) mine)
    gains (h ∷ hands) (suc port) v w more at is =
        via (along (append_assoc (f h) (flat_map f hands) more))
        (IsPermutation-append_right (f h) (flat_map f hands ++ more) (flat_map f (set hands port w)) (gains hands port v w more at is))

    -- what one hand loses, all lose
    pub loses : (hands : List (Hand T)) (port : ℕ) (v w : Hand T) → get_elem? hands port ≡ some v → f w ≡ []
        → IsPermutation (flat_map f hands) (flat_map f (set hands port w) ++ f v)
    loses [] port v w at none = absurd (some-ne-none v (sym at))
    loses (h ∷ hands) zero v w at none =
        let rest : List T = flat_map f hands in
        via (IsPermutation-append_comm (f h) rest)
        (along (ap (λ (u : Hand T). rest ++ f u) (some-injective h v at) ∙ ap (λ (l : List T). (l ++ rest) ++ f v) (sym none)))
    loses (h ∷ hands) (suc port) v w at none =
        via (IsPermutation-append_right (f h) (flat_map f hands) (flat_map f (set hands port w) ++ f v) (loses hands port v w at none))
        (along (sym (append_assoc (f h) (flat_map f (set hands port w)) (f v))))

    -- what one hand keeps, all keep
    pub keeps_all : (hands : List (Hand T)) (port : ℕ) (v w : Hand T) → get_elem? hands port ≡ some v → f w ≡ f v
        → flat_map f (set hands port w) ≡ flat_map f hands
    keeps_all [] port v w at same = refl
    keeps_all (h ∷ hands) zero v w at same =
        ap (λ (l : List T). l ++ flat_map f hands) (same ∙ ap f (sym (some-injective h v at)))
    keeps_all (h ∷ hands) (suc port) v w at same = ap (λ (l : List T). f h ++ l) (keeps_all hands port v w at same)

  pub parts_set : (hands : List (Hand T)) (port : ℕ) (v w : Hand T) → get_elem? hands port ≡ some v
      → parts_of (set hands port w) + v.parts ≡ parts_of hands + w.parts
  parts_set [] port v w at = absurd (some-ne-none v (sym at))
  parts_set (h ∷ hands) zero v w at =
      let same : h.parts ≡ v.parts = ap (λ (u : Hand T). u.parts) (some-injective h v at) in
      omega (arith, same, sum_by-cons (λ (u : Hand T). u.parts) w hands, sum_by-cons (λ (u : Hand T). u.parts) h hands)
  parts_set (h ∷ hands) (suc port) v w at =
      omega (arith, parts_set hands port v w at, sum_by-cons (λ (u : Hand T). u.parts) h (set hands port w), sum_by-cons (λ (u : Hand T). u.parts) h hands)

  pub part_le : (hands : List (Hand T)) (port : ℕ) (v : Hand T) → get_elem? hands port ≡ some v → v.parts ≤ parts_of hands
  part_le [] port v at = absurd (some-ne-none v (sym at))
  part_le (h ∷ hands) zero v at =
      let same : h.parts ≡ v.parts = ap (λ (u : Hand T). u.parts) (some-injective h v at) in
      omega (arith, same, sum_by-cons (λ (u : Hand T). u.parts) h hands)
  part_le (h ∷ hands) (suc port) v at = omega (arith, part_le hands port v at, sum_by-cons (λ (u : Hand T). u.parts) h hands)

  pub spent_set : (hands : List (Hand T)) (port : ℕ) (w : Hand T) → IsEmptyIfSpent w → AllEmptyIfSpent hands → AllEmptyIfSpent (set hands port w)
  spent_set [] port w one all = tt
  spent_set (h ∷ hands) zero w one all = (one, all.1)
  spent_set (h ∷ hands) (suc port) w one all = (all.0, spent_set hands port w one all.1)

  pub spent_snoc : (hands : List (Hand T)) (w : Hand T) → IsEmptyIfSpent w → AllEmptyIfSpent hands → AllEmptyIfSpent (hands ++ w ∷ [])
  spent_snoc [] w one all = (one, tt)
  spent_snoc (h ∷ hands) w one all = (all.0, spent_snoc hands w one all.1)

  module _ (f : Hand T → List T) (spent : (h : Hand T) → IsEmptyIfSpent h → h.parts ≡ 0 → f h ≡ []) where
    none_left : (hands : List (Hand T)) → parts_of hands ≡ 0 → AllEmptyIfSpent hands → flat_map f hands ≡ []
    none_left [] sum all = refl
    none_left (h ∷ hands) sum all =
        let more = sum_by-cons (λ (u : Hand T). u.parts) h hands in
        ap (λ (l : List T). l ++ flat_map f hands) (spent h all.0 (omega (arith, sum, more))) ∙ none_left hands (omega (arith, sum, more)) all.1

    -- a hand with every part has all
    pub alone : (hands : List (Hand T)) (port : ℕ) (v : Hand T) → get_elem? hands port ≡ some v → parts_of hands ≡ v.parts
        → AllEmptyIfSpent hands → flat_map f hands ≡ f v
    alone [] port v at every all = absurd (some-ne-none v (sym at))
    alone (h ∷ hands) zero v at every all =
        let same : h ≡ v = some-injective h v at in
        let more = sum_by-cons (λ (u : Hand T). u.parts) h hands in
        let rest : parts_of hands ≡ 0 = omega (arith, every, more, ap (λ (u : Hand T). u.parts) same) in
        ap (λ (l : List T). f h ++ l) (none_left hands rest all.1) ∙ append-nil (f h) ∙ ap f same
    alone (h ∷ hands) (suc port) v at every all =
        let more = sum_by-cons (λ (u : Hand T). u.parts) h hands in
        let le = part_le hands port v at in
        ap (λ (l : List T). l ++ flat_map f hands) (spent h all.0 (omega (arith, every, more, le))) ∙ alone hands port v at (omega (arith, every, more, le)) all.1
