-- Rids in a set, and lists that are split at an item.
use Rattle.std.proofs.Common.{◌≡◌, Bool, true, false, ◌||◌, ℤ, List, [], ◌∷◌, ◌++◌, ◌⊎◌, inl, inr, refl, sym, ◌∙◌, ap, int_cmp, append_assoc}
use Rattle.std.proofs.Common.{Ordering, Less, Equal, Greater}
use Rattle.std.proofs.lemmas.Cmp.{int_cmp_total, int_eq_equiv}
use Rattle.std.proofs.lemmas.Map.Lookups.{exact_signed}
use Rattle.std.specs.Ordering.{int_eq, is_eq}
use Rattle.plain_lists.proofs.EntryLemmas.{list_any-insert_key}
use Rattle.plain_lists.specs.Fronts.{IsFront}
use Rattle.pipe_relay.specs.Pipes.{Rids, has_rid, with_rid}

-- rids that are the same
pub same_rid : (a b : ℤ) → int_eq a b ≡ true → a ≡ b
same_rid a b is = exact_signed a b (by (int_cmp a b) refl is)
  where
    by : (c : Ordering) → int_cmp a b ≡ c → is_eq c ≡ true → int_cmp a b ≡ Equal
    by Less e is_not = absurd (let never : ⊥ = cc in never)
    by Equal e is_so = e
    by Greater e is_not = absurd (let never : ⊥ = cc in never)

-- a rid of which a set says something else isn't this one
pub other_rid : (a b : ℤ) (set : Rids) → has_rid a set ≡ true → has_rid b set ≡ false → int_eq a b ≡ false
other_rid a b set has hasnt = by (int_eq a b) refl
  where
    by : (t : Bool) → int_eq a b ≡ t → t ≡ false
    by true is =
        let moved : has_rid a set ≡ has_rid b set = ap (λ (r : ℤ). has_rid r set) (same_rid a b is) in
        absurd (let never : ⊥ = cc in never)
    by false is = refl

pub has-with_rid : (set : Rids) (rid q : ℤ) → has_rid q (with_rid rid set) ≡ (int_eq q rid || has_rid q set)
has-with_rid set rid q = list_any-insert_key int_cmp_total set rid q

-- the rid that was put is there, and the others stay
pub has-put : (set : Rids) (rid : ℤ) → has_rid rid (with_rid rid set) ≡ true
has-put set rid = has-with_rid set rid rid ∙ ap (λ (b : Bool). b || has_rid rid set) (int_eq_equiv.refl rid)

pub has-kept : (set : Rids) (rid q : ℤ) → has_rid q set ≡ true → has_rid q (with_rid rid set) ≡ true
has-kept set rid q has = has-with_rid set rid q ∙ ap (λ (b : Bool). int_eq q rid || b) has ∙ either (int_eq q rid)
  where
    either : (b : Bool) → (b || true) ≡ true
    either true = refl
    either false = refl

-- another one stays away
pub hasnt-put : (set : Rids) (rid q : ℤ) → int_eq rid q ≡ false → has_rid q set ≡ false → has_rid q (with_rid rid set) ≡ false
hasnt-put set rid q apart hasnt =
    has-with_rid set rid q
    ∙ ap (λ (b : Bool). b || has_rid q set) (int_eq_equiv.symm q rid ∙ apart)
    ∙ hasnt

-- none of two tests
pub neither : (a b : Bool) → (a || b) ≡ false → (a ≡ false) × (b ≡ false)
neither true b is = absurd (let never : ⊥ = cc in never)
neither false b is = (refl, is)

-- ---- lists

-- a list is split at its head, or behind it
pub split-cons : {X : Type 0} (x y : X) (xs front rest : List X) → x ∷ xs ≡ front ++ y ∷ rest
    → ((front ≡ []) × (x ≡ y) × (xs ≡ rest)) ⊎ ((more : List X) × (front ≡ x ∷ more) × (xs ≡ more ++ y ∷ rest))
split-cons x y xs [] rest is = inl (refl, cc, cc)
split-cons {X} x y xs (z ∷ more) rest is =
    let head : z ≡ x = cc in
    inr (more, ap (λ (w : X). w ∷ more) head, cc)

pub split-nil : {X : Type 0} (y : X) (front rest : List X) → [] ≡ front ++ y ∷ rest → ⊥
split-nil y [] rest is = cc
split-nil y (z ∷ more) rest is = cc

pub IsFront-behind_same : {X : Type 0} (same front whole : List X) → IsFront front whole → IsFront (same ++ front) (same ++ whole)
IsFront-behind_same {X} same front whole is =
    record { rest = is.rest; is = append_assoc same front is.rest ∙ ap (λ (l : List X). same ++ l) is.is }
