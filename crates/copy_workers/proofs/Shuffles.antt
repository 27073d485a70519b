-- Steps of a proof that two lists have the same elements.
use Rattle.std.proofs.Common.{◌≡◌, List, ◌++◌, subst, sym, IsPermutation, append_assoc}
use Rattle.std.proofs.lemmas.List.Sorted.{IsPermutation-refl, IsPermutation-trans, IsPermutation-append_comm, IsPermutation-append_right}

module _ {X : Type 0} where
  pub via : {xs ys zs : List X} → IsPermutation xs ys → IsPermutation ys zs → IsPermutation xs zs
  via {xs} {ys} {zs} a b = IsPermutation-trans xs ys zs a b

  pub along : {xs ys : List X} → xs ≡ ys → IsPermutation xs ys
  along {xs} e = subst (IsPermutation xs) e (IsPermutation-refl xs)

  -- the last two of three lists change places
  pub turn : (xs ys zs : List X) → IsPermutation ((xs ++ ys) ++ zs) ((xs ++ zs) ++ ys)
  turn xs ys zs =
      via (along (append_assoc xs ys zs))
      (via (IsPermutation-append_right xs (ys ++ zs) (zs ++ ys) (IsPermutation-append_comm ys zs)) (along (sym (append_assoc xs zs ys))))
