-- Counts told before the frames of a row, and lists whose items stand so to those of another list.
use Rattle.std.proofs.Common.{◌≡◌, ℕ, suc, zero, cond, List, [], ◌∷◌, ◌++◌, Option, Some, None, Bool, true, false, max, drop, length, refl, sym, ap, subst, ◌∙◌, arith}
use Rattle.std.specs.Option.{MatchOption}
use Rattle.std.specs.Prelude.{slice_get}
use Rattle.plain_lists.specs.Fronts.{IsFront}
use Rattle.transfer_frames.specs.declared.frame.Frame.{Frame}
use Rattle.transfer_frames.specs.Grammar.{role}
use Rattle.pair_model.specs.Rows.{counted, told, is_counted, count_in}
use Rattle.pair_model.specs.Order.{told_before, Within, InTime}

-- ---- counts told before

cond_append : {X : Type 0} (b : Bool) (x : X) (later more : List X) → cond b (x ∷ (later ++ more)) (later ++ more) ≡ cond b (x ∷ later) later ++ more
cond_append true x later more = refl
cond_append false x later more = refl

same_most : (m c t : ℕ) → max (max m c) t ≡ max m (max c t)
same_most m c t = omega arith

pub told_before-append : (most : ℕ) (fs gs : List Frame) → told_before most (fs ++ gs) ≡ told_before most fs ++ told_before (max most (told fs)) gs
told_before-append most [] gs =
    let e : max most 0 ≡ most = omega arith in
    ap (λ (n : ℕ). told_before n gs) (sym e)
told_before-append most (f ∷ fs) gs =
    let c : ℕ = count_in (role f) in
    let again : told_before (max most c) (fs ++ gs) ≡ told_before (max most c) fs ++ told_before (max most (max c (told fs))) gs =
    told_before-append (max most c) fs gs ∙ ap (λ (n : ℕ). told_before (max most c) fs ++ told_before n gs) (same_most most c (told fs)) in
    ap (λ (later : List ℕ). cond (is_counted (role f)) (most ∷ later) later) again
    ∙ cond_append (is_counted (role f)) most (told_before (max most c) fs) (told_before (max most (max c (told fs))) gs)

length_if : {X Y : Type 0} (b : Bool) (x : X) (xs : List X) (y : Y) (ys : List Y) → length xs ≡ length ys → length (cond b (x ∷ xs) xs) ≡ length (cond b (y ∷ ys) ys)
length_if true x xs y ys e = ap suc e
length_if false x xs y ys e = e

-- each counted frame has one
pub length-told_before : (most : ℕ) (fs : List Frame) → length (told_before most fs) ≡ length (counted fs)
length-told_before most [] = refl
length-told_before most (f ∷ fs) = length_if (is_counted (role f)) most (told_before (max most (count_in (role f))) fs) f (counted fs) (length-told_before (max most (count_in (role f))) fs)

get_if : (b : Bool) (m v : ℕ) (f : Frame) (later : List ℕ) (fs : List Frame) → slice_get later (length fs) ≡ Some v → slice_get (cond b (m ∷ later) later) (length (cond b (f ∷ fs) fs)) ≡ Some v
get_if true m v f later fs e = e
get_if false m v f later fs e = e

-- that of a counted frame in the row
pub told_before_at : (most : ℕ) (before : List Frame) (f : Frame) (after : List Frame) → is_counted (role f) ≡ true
    → slice_get (told_before most (before ++ f ∷ after)) (length (counted before)) ≡ Some (max most (told before))
told_before_at most [] f after e =
    let m : max most 0 ≡ most = omega arith in
    rw (e, m) refl
told_before_at most (g ∷ before) f after e =
    let c : ℕ = count_in (role g) in
    get_if (is_counted (role g)) most (max most (max c (told before))) g (told_before (max most c) (before ++ f ∷ after)) (counted before)
    (told_before_at (max most c) before f after e ∙ ap (λ (n : ℕ). Some n) (same_most most c (told before)))

-- where nothing is sent, nothing is sent early
pub none_early : (answer : Option ℕ) (due : List ℕ) (received : ℕ) → MatchOption answer (Unit {0}) (λ p. InTime due received p [])
none_early None due received = tt
none_early (Some p) due received = tt

-- ---- lists that stand so to others

pub within_more : (relation : ℕ → ℕ → Type 0) (xs ys more : List ℕ) → Within relation xs ys → Within relation xs (ys ++ more)
within_more relation [] ys more h = tt
within_more relation (x ∷ xs) [] more h = absurd h
within_more relation (x ∷ xs) (y ∷ ys) more h = (h.0, within_more relation xs ys more h.1)

-- one more item, with the first one behind those at the places of the others
pub within_push : (relation : ℕ → ℕ → Type 0) (xs ys : List ℕ) (x y : ℕ) (later : List ℕ) → Within relation xs ys → drop (length xs) ys ≡ y ∷ later → relation x y → Within relation (xs ++ x ∷ []) ys
within_push relation [] [] x y later h e r = absurd cc
within_push relation [] (z ∷ ys) x y later h e r =
    let same : y ≡ z = cc in
    (subst (λ (w : ℕ). relation x w) same r, tt)
within_push relation (w ∷ xs) [] x y later h e r = absurd h
within_push relation (w ∷ xs) (z ∷ ys) x y later h e r = (h.0, within_push relation xs ys x y later h.1 e r)

pub within_front : (relation : ℕ → ℕ → Type 0) (xs ys zs : List ℕ) → Within relation (xs ++ ys) zs → Within relation xs zs
within_front relation [] ys zs h = tt
within_front relation (x ∷ xs) ys [] h = absurd h
within_front relation (x ∷ xs) ys (z ∷ zs) h = (h.0, within_front relation xs ys zs h.1)

pub within_at : (relation : ℕ → ℕ → Type 0) (xs ys : List ℕ) (i x y : ℕ) → Within relation xs ys → slice_get xs i ≡ Some x → slice_get ys i ≡ Some y → relation x y
within_at relation [] ys i x y h ex ey = absurd cc
within_at relation (w ∷ xs) [] i x y h ex ey = absurd h
within_at relation (w ∷ xs) (z ∷ ys) zero x y h ex ey =
    let sx : w ≡ x = cc in
    let sy : z ≡ y = cc in
    subst (λ (n : ℕ). relation n y) sx (subst (λ (n : ℕ). relation w n) sy h.0)
within_at relation (w ∷ xs) (z ∷ ys) (suc i) x y h ex ey = within_at relation xs ys i x y h.1 ex ey

-- what is left of a IsFront_longer list
pub drop_longer : {X : Type 0} (p : ℕ) (xs more : List X) → IsFront (drop p xs) (drop p (xs ++ more))
drop_longer zero xs more = record { rest = more; is = refl }
drop_longer (suc p) [] more = record { rest = drop (suc p) more; is = refl }
drop_longer (suc p) (x ∷ xs) more = drop_longer p xs more

pub within_longer : (relation : ℕ → ℕ → Type 0) (p : ℕ) (xs ys more : List ℕ) → Within relation xs (drop p ys) → Within relation xs (drop p (ys ++ more))
within_longer relation p xs ys more h =
    let b : IsFront (drop p ys) (drop p (ys ++ more)) = drop_longer p ys more in
    subst (λ (zs : List ℕ). Within relation xs zs) b.is (within_more relation xs (drop p ys) b.rest h)
