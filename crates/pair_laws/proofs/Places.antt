-- Places in lists, and fronts of lists.
use Rattle.std.proofs.Common.{◌≡◌, ℕ, ◌+◌, ◌<◌, ◌≤◌, suc, zero, List, [], ◌∷◌, ◌++◌, Some, map, take, length, refl, sym, ap, ◌∙◌, arith, length-append}
use Rattle.std.proofs.lemmas.List.{append-nil, map-append, nil_from_length}
use Rattle.std.specs.Prelude.{slice_get}
use Rattle.plain_lists.specs.Fronts.{IsFront}

-- an item of a list is in a longer one at its place
pub get-append : {X : Type 0} (xs ys : List X) (i : ℕ) (x : X) → slice_get xs i ≡ Some x → slice_get (xs ++ ys) i ≡ Some x
get-append [] ys i x e = absurd cc
get-append (w ∷ xs) ys zero x e = e
get-append (w ∷ xs) ys (suc i) x e = get-append xs ys i x e

pub get_front : {X : Type 0} {xs ys : List X} (i : ℕ) (x : X) → IsFront xs ys → slice_get xs i ≡ Some x → slice_get ys i ≡ Some x
get_front {X} {xs} {ys} i x f e = ap (λ (zs : List X). slice_get zs i) (sym f.is) ∙ get-append xs f.rest i x e

-- what stands behind the items of a list
pub get_behind : {X : Type 0} (xs ys : List X) (i : ℕ) → slice_get (xs ++ ys) (length xs + i) ≡ slice_get ys i
get_behind {X} [] ys i = let e : length {A = X} [] + i ≡ i = omega arith in ap (slice_get ys) e
get_behind (x ∷ xs) ys i = let e : length (x ∷ xs) + i ≡ suc (length xs + i) = omega arith in ap (slice_get (x ∷ (xs ++ ys))) e ∙ get_behind xs ys i

pub get_middle : {X : Type 0} (xs : List X) (x : X) (ys : List X) → slice_get (xs ++ x ∷ ys) (length xs) ≡ Some x
get_middle [] x ys = refl
get_middle (w ∷ xs) x ys = get_middle xs x ys

-- the first items of a list
pub get-take : {X : Type 0} (n : ℕ) (xs : List X) (i : ℕ) → i < n → slice_get (take n xs) i ≡ slice_get xs i
get-take zero xs i l = absurd (omega (arith, l))
get-take (suc n) [] i l = refl
get-take (suc n) (x ∷ xs) zero l = refl
get-take (suc n) (x ∷ xs) (suc i) l = get-take n xs i (omega (arith, l))

pub get_taken : {X : Type 0} (n : ℕ) (xs : List X) (i : ℕ) (x : X) → slice_get (take n xs) i ≡ Some x → slice_get xs i ≡ Some x
get_taken zero xs i x e = absurd cc
get_taken (suc n) [] i x e = absurd cc
get_taken (suc n) (w ∷ xs) zero x e = e
get_taken (suc n) (w ∷ xs) (suc i) x e = get_taken n xs i x e

pub get-map : {X Y : Type 0} (f : X → Y) (xs : List X) (i : ℕ) (x : X) → slice_get xs i ≡ Some x → slice_get (map f xs) i ≡ Some (f x)
get-map f [] i x e = absurd cc
get-map f (w ∷ xs) zero x e = let same : w ≡ x = cc in ap (λ y. Some (f y)) same
get-map f (w ∷ xs) (suc i) x e = get-map f xs i x e

-- an item of a list stands within it
pub get_within : {X : Type 0} (xs : List X) (i : ℕ) (x : X) → slice_get xs i ≡ Some x → i < length xs
get_within [] i x e = absurd cc
get_within (w ∷ xs) zero x e = omega arith
get_within (w ∷ xs) (suc i) x e = omega (arith, get_within xs i x e)

-- ---- fronts

pub front_map : {X Y : Type 0} (f : X → Y) {xs ys : List X} → IsFront xs ys → IsFront (map f xs) (map f ys)
front_map f {xs} {ys} a = record { rest = map f a.rest; is = sym (map-append f xs a.rest) ∙ ap (map f) a.is }

-- a front that is as long as its list is the list
pub front_all : {X : Type 0} {xs ys : List X} → IsFront xs ys → length ys ≤ length xs → xs ≡ ys
front_all {X} {xs} {ys} a l =
    let none : length a.rest ≡ 0 = omega (arith, length-append xs a.rest, ap length a.is, l) in
    sym (append-nil xs) ∙ ap (λ (zs : List X). xs ++ zs) (sym (nil_from_length a.rest none)) ∙ a.is
