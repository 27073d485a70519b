-- Lemmas about fronts of lists.
use Rattle.std.proofs.Common.{◌≡◌, ◌≤◌, ℕ, List, [], ◌∷◌, ◌++◌, length, take, drop, refl, sym, ap, ◌∙◌, append_assoc, arith, length-append}
use Rattle.std.proofs.lemmas.List.{append-nil, nil_from_length, take_at, drop_at, take-append-drop}
use Rattle.plain_lists.specs.Fronts.{IsFront}

pub IsFront_nil : {X : Type 0} (xs : List X) → IsFront [] xs
IsFront_nil xs = record { rest = xs; is = refl }

pub IsFront_self : {X : Type 0} (xs : List X) → IsFront xs xs
IsFront_self xs = record { rest = []; is = append-nil xs }

pub IsFront_same : {X : Type 0} (xs ys : List X) → xs ≡ ys → IsFront xs ys
IsFront_same xs ys same = record { rest = []; is = append-nil xs ∙ same }

pub IsFront-append : {X : Type 0} (xs ys : List X) → IsFront xs (xs ++ ys)
IsFront-append xs ys = record { rest = ys; is = refl }

pub IsFront-take : {X : Type 0} (n : ℕ) (xs : List X) → IsFront (take n xs) xs
IsFront-take n xs = record { rest = drop n xs; is = take-append-drop n xs }

pub IsFront_trans : {X : Type 0} {xs ys zs : List X} → IsFront xs ys → IsFront ys zs → IsFront xs zs
IsFront_trans {X} {xs} {ys} {zs} a b =
    record { rest = a.rest ++ b.rest; is = sym (append_assoc xs a.rest b.rest) ∙ ap (λ (l : List X). l ++ b.rest) a.is ∙ b.is }

pub IsFront_length : {X : Type 0} {xs ys : List X} → IsFront xs ys → length xs ≤ length ys
IsFront_length {X} {xs} {ys} a = omega (arith, length-append xs a.rest, ap length a.is)

-- a front is the first items of its list
pub IsFront_first : {X : Type 0} {xs ys : List X} → IsFront xs ys → xs ≡ take (length xs) ys
IsFront_first {X} {xs} {ys} a = sym (take_at xs a.rest (length xs) refl) ∙ ap (take (length xs)) a.is

-- a list is its front and what stands behind it
pub IsFront_drop : {X : Type 0} {xs ys : List X} → IsFront xs ys → xs ++ drop (length xs) ys ≡ ys
IsFront_drop {X} {xs} {ys} a =
    ap (λ (l : List X). xs ++ drop (length xs) l) (sym a.is) ∙ ap (λ (l : List X). xs ++ l) (drop_at xs a.rest (length xs) refl) ∙ a.is

-- two lists that are fronts of each other are one
pub IsFront_both : {X : Type 0} {xs ys : List X} → IsFront xs ys → IsFront ys xs → xs ≡ ys
IsFront_both {X} {xs} {ys} a b =
    let none : length a.rest ≡ 0 = omega (arith, length-append xs a.rest, ap length a.is, IsFront_length b) in
    sym (append-nil xs) ∙ ap (λ (l : List X). xs ++ l) (sym (nil_from_length a.rest none)) ∙ a.is

-- a front, and behind it a front of what is left
pub IsFront_behind : {X : Type 0} (xs ys zs : List X) → IsFront xs zs → IsFront ys (drop (length xs) zs) → IsFront (xs ++ ys) zs
IsFront_behind {X} xs ys zs a b =
    record { rest = b.rest; is = append_assoc xs ys b.rest ∙ ap (λ (l : List X). xs ++ l) b.is ∙ IsFront_drop a }

-- of two fronts of one list the shorter is a front of the longer
pub IsFront_longer : {X : Type 0} (xs ys p q : List X) → xs ++ p ≡ ys ++ q → length ys ≤ length xs → IsFront ys xs
IsFront_longer xs [] p q e l = record { rest = xs; is = refl }
IsFront_longer [] (y ∷ ys) p q e l = absurd (omega arith)
IsFront_longer (x ∷ xs) (y ∷ ys) p q e l =
    let b : IsFront ys xs = IsFront_longer xs ys p q (cc) (omega arith) in
    let same : y ≡ x = cc in
    record { rest = b.rest; is = cc (b.is, same) }
