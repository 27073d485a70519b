-- A step of one surface, written back among the others, and what a look-up finds behind each kind of step.
use Rattle.std.proofs.Common.{◌≡◌, ℕ, Bool, true, false, cond, eqb, List, [], ◌∷◌, Option, Some, None, Ordering, Less, Equal, Greater, Result, Ok, Err, OnOk, OnErr, nat_cmp, refl, sym, ap, subst, ◌∙◌, ⊎_elim}
use Rattle.std.specs.Option.{option_map}
use Rattle.std.specs.Ordering.{is_eq, match_ordering}
use Rattle.std.specs.Cmp.{unsigned_tied}
use Rattle.std.specs.List.Sorted.{IsStrictlySortedBy}
use Rattle.std.specs.Map.{lookup, set_value, keys_of, remove_entry}
use Rattle.std.specs.BTreeMap.{is_at, insert_entry}
use Rattle.std.proofs.lemmas.Bool.{true≢false, cases_Bool, cond-true, cond-false, cond_both, eqb-true, eq-eqb}
use Rattle.std.proofs.lemmas.Cmp.{eq_by_cmp_equiv, nat_cmp_total}
use Rattle.std.proofs.lemmas.Map.{lookup-remove_entry}
use Rattle.std.proofs.lemmas.Map.Keys.{IsDistinct-from_sorted}
use Rattle.std.proofs.lemmas.Map.Lookups.{exact_unsigned}
use Rattle.std.proofs.lemmas.Map.Steps.{set_value_same}
use Rattle.surface_damage.specs.History.{SurfaceState}
use Rattle.surface_damage.specs.Statements.{FindAfter}
use Rattle.surface_damage.specs.Steps.{changed, find}

none_some : {A B : Type 0} (v : A) → None ≡ Some v → B
none_some v e = absurd (cc)

some_same : {A : Type 0} (v w : A) → Some v ≡ Some w → v ≡ w
some_same v w e = cc

-- the surface of the id, after its step, in place of what was found
pub changed_is : (id : ℕ) (step : SurfaceState → SurfaceState) (all : List (ℕ × SurfaceState)) (old new : SurfaceState) → find id all ≡ Some old → new ≡ step old → set_value (is_at (nat_cmp id)) all new ≡ changed id step all
changed_is id step [] old new found is = none_some old found
changed_is id step (one ∷ others) old new found is =
    let test : Bool = is_at (nat_cmp id) one.0 in
    ⊎_elim
    (λ here. cond-true test _ _ here
    ∙ ap (λ (s : SurfaceState). (one.0, s) ∷ others) (is ∙ ap step (sym (some_same one.1 old (sym (cond-true test (Some one.1) (find id others) here) ∙ found))))
    ∙ sym (cond-true test _ _ here))
    (λ later. cond-false test _ _ later
    ∙ ap (λ rest. one ∷ rest) (changed_is id step others old new (sym (cond-false test (Some one.1) (find id others) later) ∙ found) is)
    ∙ sym (cond-false test _ _ later))
    (cases_Bool test)

-- an id that has none
pub changed_none : (id : ℕ) (step : SurfaceState → SurfaceState) (all : List (ℕ × SurfaceState)) → find id all ≡ None → changed id step all ≡ all
changed_none id step [] none = refl
changed_none id step (one ∷ others) none =
    let test : Bool = is_at (nat_cmp id) one.0 in
    ⊎_elim
    (λ here. none_some one.1 (sym none ∙ cond-true test (Some one.1) (find id others) here))
    (λ later. cond-false test _ _ later
    ∙ ap (λ rest. one ∷ rest) (changed_none id step others (sym (cond-false test (Some one.1) (find id others) later) ∙ none)))
    (cases_Bool test)

-- ---- look-ups

-- the test of an id, said the other way
at_is : (id other : ℕ) → is_at (nat_cmp other) id ≡ eqb id other
at_is id other = (eq_by_cmp_equiv nat_cmp_total).symm other id ∙ unsigned_tied id other

chosen_twice : {A : Type 0} (b : Bool) (x y z : A) → cond b x z ≡ cond b x (cond b y z)
chosen_twice true x y z = refl
chosen_twice false x y z = refl

chosen_apart : {A : Type 0} (b c : Bool) (x y z : A) → (c ≡ true → b ≡ false) → cond c y (cond b x z) ≡ cond b x (cond c y z)
chosen_apart true true x y z apart = absurd (true≢false (apart refl))
chosen_apart true false x y z apart = refl
chosen_apart false true x y z apart = refl
chosen_apart false false x y z apart = refl

-- an id above that of the surface which a look-up finds is another one
ids_apart : (id other first : ℕ) → nat_cmp id first ≡ Greater → is_at (nat_cmp other) first ≡ true → eqb id other ≡ false
ids_apart id other first above is =
    let same : first ≡ other = eqb-true first other (sym (at_is first other) ∙ is) in
    sym (unsigned_tied id other) ∙ ap (λ n. is_eq (nat_cmp id n)) (sym same) ∙ ap is_eq above

find_made : (id other : ℕ) (s : SurfaceState) (all : List (ℕ × SurfaceState)) → find other (insert_entry nat_cmp all id s) ≡ cond (eqb id other) (Some s) (find other all)
find_made id other s [] = ap (λ b. cond b (Some s) None) (at_is id other)
find_made id other s (one ∷ others) = by (find_made id other s others) (nat_cmp id one.0) refl
  where
    by : find other (insert_entry nat_cmp others id s) ≡ cond (eqb id other) (Some s) (find other others) → (order : Ordering) → nat_cmp id one.0 ≡ order
        → find other (match_ordering order ((id, s) ∷ one ∷ others) ((one.0, s) ∷ others) (one ∷ insert_entry nat_cmp others id s)) ≡ cond (eqb id other) (Some s) (find other (one ∷ others))
    by rest Less is = ap (λ b. cond b (Some s) (find other (one ∷ others))) (at_is id other)
    by rest Equal is =
        let test : is_at (nat_cmp other) one.0 ≡ eqb id other = at_is one.0 other ∙ ap (λ n. eqb n other) (sym (exact_unsigned id one.0 is)) in
        ap (λ b. cond b (Some s) (find other others)) test ∙ chosen_twice (eqb id other) (Some s) (Some one.1) (find other others)
        ∙ ap (λ b. cond (eqb id other) (Some s) (cond b (Some one.1) (find other others))) (sym test)
    by rest Greater is =
        ap (cond (is_at (nat_cmp other) one.0) (Some one.1)) rest
        ∙ chosen_apart (eqb id other) (is_at (nat_cmp other) one.0) (Some s) (Some one.1) (find other others) (ids_apart id other one.0 is)

mapped_here : (b here : Bool) (step : SurfaceState → SurfaceState) (s : SurfaceState) (rest : Option SurfaceState) → b ≡ here → cond b (Some (step s)) rest ≡ cond here (option_map step (cond b (Some s) rest)) (cond b (Some s) rest)
mapped_here true true step s rest same = refl
mapped_here true false step s rest same = absurd (true≢false same)
mapped_here false true step s rest same = absurd (true≢false (sym same))
mapped_here false false step s rest same = refl

mapped_later : (b here : Bool) (step : SurfaceState → SurfaceState) (s : SurfaceState) (rest : Option SurfaceState) → (b ≡ true → here ≡ false) → cond b (Some s) (cond here (option_map step rest) rest) ≡ cond here (option_map step (cond b (Some s) rest)) (cond b (Some s) rest)
mapped_later true true step s rest apart = absurd (true≢false (apart refl))
mapped_later true false step s rest apart = refl
mapped_later false here step s rest apart = refl

find_changed : (id other : ℕ) (step : SurfaceState → SurfaceState) (all : List (ℕ × SurfaceState)) → find other (changed id step all) ≡ cond (eqb id other) (option_map step (find other all)) (find other all)
find_changed id other step [] = cond_both (eqb id other) (option_map step (find other [])) (find other []) (λ found. None ≡ found) (λ here. refl) (λ apart. refl)
find_changed id other step (one ∷ others) =
    let test : Bool = is_at (nat_cmp other) one.0 in
    cond_both (is_at (nat_cmp id) one.0) ((one.0, step one.1) ∷ others) (one ∷ changed id step others)
    (λ after. find other after ≡ cond (eqb id other) (option_map step (find other (one ∷ others))) (find other (one ∷ others)))
    (λ here. mapped_here test (eqb id other) step one.1 (find other others) (at_is one.0 other ∙ ap (λ n. eqb n other) (sym (eqb-true id one.0 (sym (unsigned_tied id one.0) ∙ here)))))
    (λ later. ap (cond test (Some one.1)) (find_changed id other step others)
    ∙ mapped_later test (eqb id other) step one.1 (find other others) (λ is. sym (ap (eqb id) (eqb-true one.0 other (sym (at_is one.0 other) ∙ is))) ∙ sym (unsigned_tied id one.0) ∙ later))

find_destroyed : (id other : ℕ) (all : List (ℕ × SurfaceState)) → IsStrictlySortedBy nat_cmp (keys_of all) → find other (remove_entry (is_at (nat_cmp id)) all) ≡ cond (eqb id other) None (find other all)
find_destroyed id other all rising =
    let laws = eq_by_cmp_equiv nat_cmp_total in
    lookup-remove_entry laws (is_at (nat_cmp id)) (λ x y is. laws.congr id x y is) other all (IsDistinct-from_sorted nat_cmp (keys_of all) rising)
    ∙ ap (λ b. cond b None (find other all)) (unsigned_tied id other)

pub find_after_law : FindAfter
find_after_law = record { made = find_made; destroyed = find_destroyed; changed = find_changed }

-- what holds of the surfaces behind either outcome holds of them
pub either_way : {T E : Type 0} (r : Result T E) (P : List (ℕ × SurfaceState) → Type 0) (new stepped same : List (ℕ × SurfaceState)) → OnOk r (new ≡ stepped) → OnErr r (new ≡ same) → P stepped → P same → P new
either_way (Ok v) P new stepped same ok err after before = subst P (sym ok) after
either_way (Err e) P new stepped same ok err after before = subst P (sym err) before

-- a fact that holds whatever the outcome
pub on_any_ok : {T E : Type 0} (r : Result T E) (P : Type 0) → P → OnOk r P
on_any_ok (Ok v) P p = p
on_any_ok (Err e) P p = tt

pub on_any_err : {T E : Type 0} (r : Result T E) (P : Type 0) → P → OnErr r P
on_any_err (Ok v) P p = tt
on_any_err (Err e) P p = p
