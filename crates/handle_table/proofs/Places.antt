-- The place at which a list first passes a test, and what a push does to it.
use Rattle.std.proofs.Common.{◌≡◌, ℕ, ◌+◌, ◌<◌, ◌≤◌, Bool, true, false, cond, List, [], ◌∷◌, ◌++◌, length, get_or, None, Some, position, refl, sym, ◌∙◌, ap, arith, length-append}
use Rattle.std.specs.Prelude.{nat_lt, ◌||◌, not}
use Rattle.std.specs.List.{position_or_len, list_any}
use Rattle.std.proofs.lemmas.Bool.Decides.{nat_tests}
use Rattle.indexmap.specs.IndexSet.{insert_key}
use Rattle.handle_table.specs.declared.handles.Handle.{Handle}
use Rattle.handle_table.specs.Table.{is_handle, passed_found}
use Rattle.std.proofs.Math.Dec.{ltb}
use Rattle.std.proofs.lemmas.List.{get_or_append_left, get_or_push}
use Rattle.std.proofs.lemmas.List.Quantifiers.{position-Some}
use Rattle.std.proofs.lemmas.List.Sums.{position_or_len_is, fails_before_first}
use Rattle.std.proofs.lemmas.Bool.{lt-ltb, ltb-false}

-- the first place that passes is the position
position_is : {X : Type 0} (p : X → Bool) (xs : List X) (i : ℕ) (d : X) → i < length xs
    → ((k : ℕ) → k < i → p (get_or xs k d) ≡ false) → p (get_or xs i d) ≡ true → position p xs ≡ Some i
position_is p xs i d within before at =
    let first = position_or_len p xs in
    let there : first ≡ i = position_or_len_is p xs i d (omega arith) before (λ _. at) in
    let inside : first < length xs = omega (arith, there) in
    ap (λ (b : Bool). cond b (Some first) None) (lt-ltb first (length xs) inside) ∙ ap (λ (n : ℕ). Some n) there

-- a position outlasts a push
pub position-push : {X : Type 0} (p : X → Bool) (xs : List X) (y : X) (i : ℕ)
    → position p xs ≡ Some i → position p (xs ++ y ∷ []) ≡ Some i
position-push p xs y i found =
    let facts = position-Some p xs i y found in
    let within : i < length xs = facts.0 in
    let more = length-append xs (y ∷ []) in
    position_is p (xs ++ y ∷ []) i y (omega (arith, more))
    (λ k before. ap p (get_or_append_left xs (y ∷ []) y k (omega arith)) ∙ facts.2 k before)
    (ap p (get_or_append_left xs (y ∷ []) y i within) ∙ facts.1)

-- a test chose nothing
chose_none : (b : Bool) (n : ℕ) → cond b (Some n) None ≡ None → b ≡ false
chose_none true n none = cc
chose_none false n none = refl

-- what passes and is pushed where nothing passed has the last place
pub position-pushed : {X : Type 0} (p : X → Bool) (xs : List X) (y : X)
    → position p xs ≡ None → p y ≡ true → position p (xs ++ y ∷ []) ≡ Some (length xs)
position-pushed p xs y none passes =
    let first = position_or_len p xs in
    let past : length xs ≤ first = ltb-false first (length xs) (chose_none (ltb first (length xs)) first none) in
    let more = length-append xs (y ∷ []) in
    position_is p (xs ++ y ∷ []) (length xs) y (omega (arith, more))
    (λ k before. ap p (get_or_append_left xs (y ∷ []) y k before) ∙ fails_before_first p xs k y (omega arith))
    (ap p (get_or_push xs y y (length xs) refl) ∙ passes)

-- a list has an element that passes exactly where one is found in it
list_any-position : {X : Type 0} (p : X → Bool) (xs : List X) → list_any p xs ≡ nat_lt (position_or_len p xs) (length xs)
list_any-position p [] = refl
list_any-position p (x ∷ xs) = by (list_any-position p xs) (p x) refl
  where
    by : list_any p xs ≡ nat_lt (position_or_len p xs) (length xs) → (b : Bool) → p x ≡ b
        → (b || list_any p xs) ≡ nat_lt (cond (not b) (1 + position_or_len p xs) 0) (length (x ∷ xs))
    by rest true passes = sym (lt-ltb 0 (length (x ∷ xs)) (omega arith))
    by rest false fails = rest ∙ grind (arith, nat_tests)

-- what a set of an element more has: the list itself where the element stood in it, else one at its end
pub inserted_found : (passed : List Handle) (h : Handle)
    → insert_key is_handle passed h ≡ passed_found passed h (position (is_handle h) passed)
inserted_found passed h =
    ap (λ (b : Bool). cond b passed (passed ++ h ∷ [])) (list_any-position (is_handle h) passed)
    ∙ by (nat_lt (position_or_len (is_handle h) passed) (length passed))
  where
    by : (b : Bool) → cond b passed (passed ++ h ∷ []) ≡ passed_found passed h (cond b (Some (position_or_len (is_handle h) passed)) None)
    by true = refl
    by false = refl
