-- Each step at a queue keeps its rule.
use Rattle.std.proofs.Common.{◌≡◌, ◌≢◌, ℕ, zero, suc, ◌+◌, ◌-◌, ◌<◌, List, [], ◌∷◌, ◌++◌, set, flat_map, refl, sym, ap, ◌∙◌, IsPermutation, append_assoc, append-nil, arith}
use Rattle.std.proofs.lemmas.List.Sums.{sum_by-append}
use Rattle.std.proofs.lemmas.List.Concat.{flat_map-append}
use Rattle.std.proofs.lemmas.List.Sorted.{IsPermutation-refl, IsPermutation-sym, IsPermutation-append_left}
use mathlib.Core.Option.{some}
use lib.ListN.{get_elem?}
use Rattle.atomic_table.proofs.Lists.{set_else}
use Rattle.crossbeam_queue.specs.Fifo.{Pushes, Pops, Forks, Merges, Learns}
use Rattle.copy_workers.specs.declared.hands.Hand.{Hand}
use Rattle.copy_workers.specs.Hands.{hand, all_parts, all_put, all_taken, Flows, Totals}
use Rattle.copy_workers.proofs.Shuffles.{via, along}
use Rattle.copy_workers.proofs.HandLists.{parts_of, gains, loses, keeps_all, parts_set, spent_set, spent_snoc, alone}

-- two places of a list are set, in either order
set_swap : {A : Type 0} (l : List A) (i j : ℕ) (a b : A) → j ≢ i → set (set l i a) j b ≡ set (set l j b) i a
set_swap [] i j a b apart = refl
set_swap (x ∷ l) zero zero a b apart = absurd (apart refl)
set_swap (x ∷ l) zero (suc j) a b apart = refl
set_swap (x ∷ l) (suc i) zero a b apart = refl
set_swap (x ∷ l) (suc i) (suc j) a b apart = ap (λ m. x ∷ m) (set_swap l i j a b (λ e. apart (ap suc e)))

module _ {T : Type 0} where
  -- the first hand, at an empty queue
  pub begins : Flows {T = T} [] (hand all_parts [] [] ∷ [])
  begins = record {
    came = [];
    went = [];
    in_order = refl;
    put = IsPermutation-refl [];
    taken = IsPermutation-refl [];
    parts = refl;
    spent = ((λ none. (refl, refl)), tt);
  }

  pub puts : (n port : ℕ) (v : Hand T) (x : T) → 0 < v.parts → Pushes Flows n port v x (λ w. w ≡ hand v.parts (v.put ++ x ∷ []) v.taken)
  puts n port v x some_part items hands room k at =
      let w : Hand T = hand v.parts (v.put ++ x ∷ []) v.taken in (
        w,
        record {
          came = k.came ++ x ∷ [];
          went = k.went;
          in_order = ap (λ (l : List T). l ++ x ∷ []) k.in_order ∙ append_assoc k.went items (x ∷ []);
          put = via (IsPermutation-append_left (x ∷ []) k.came (all_put hands) k.put)
              (gains (λ (h : Hand T). h.put) hands port v w (x ∷ []) at (IsPermutation-refl (v.put ++ x ∷ [])));
          taken = via k.taken (along (sym (keeps_all (λ (h : Hand T). h.taken) hands port v w at refl)));
          parts = omega (arith, parts_set hands port v w at, k.parts);
          spent = spent_set hands port w (λ none. absurd (omega arith)) k.spent;
        },
        refl,
      )

  pub takes : (port : ℕ) (v : Hand T) → 0 < v.parts → Pops Flows port v (λ x w. w ≡ hand v.parts v.put (v.taken ++ x ∷ []))
  takes port v some_part x items hands k at =
      let w : Hand T = hand v.parts v.put (v.taken ++ x ∷ []) in (
        w,
        record {
          came = k.came;
          went = k.went ++ x ∷ [];
          in_order = k.in_order ∙ sym (append_assoc k.went (x ∷ []) items);
          put = via k.put (along (sym (keeps_all (λ (h : Hand T). h.put) hands port v w at refl)));
          taken = via (IsPermutation-append_left (x ∷ []) k.went (all_taken hands) k.taken)
              (gains (λ (h : Hand T). h.taken) hands port v w (x ∷ []) at (IsPermutation-refl (v.taken ++ x ∷ [])));
          parts = omega (arith, parts_set hands port v w at, k.parts);
          spent = spent_set hands port w (λ none. absurd (omega arith)) k.spent;
        },
        refl,
      )

  -- a new hand that has put and taken nothing adds nothing
  with_new : (f : Hand T → List T) (hands : List (Hand T)) (port : ℕ) (v w new : Hand T) → get_elem? hands port ≡ some v → f w ≡ f v → f new ≡ []
      → flat_map f hands ≡ flat_map f (set hands port w ++ new ∷ [])
  with_new f hands port v w new at same none =
      let front : List T = flat_map f (set hands port w) in
      sym (flat_map-append f (set hands port w) (new ∷ [])
      ∙ ap (λ (l : List T). front ++ (l ++ [])) none
      ∙ append-nil front
      ∙ keeps_all f hands port v w at same)

  pub shares : (port : ℕ) (v : Hand T) → 1 < v.parts → Forks Flows port v (hand (v.parts - 1) v.put v.taken) (hand 1 [] [])
  shares port v two_parts items hands k at =
      let w : Hand T = hand (v.parts - 1) v.put v.taken in
      let new : Hand T = hand 1 [] [] in
      let sum = sum_by-append (λ (h : Hand T). h.parts) (set hands port w) (new ∷ []) in
      record {
        came = k.came;
        went = k.went;
        in_order = k.in_order;
        put = via k.put (along (with_new (λ (h : Hand T). h.put) hands port v w new at refl refl));
        taken = via k.taken (along (with_new (λ (h : Hand T). h.taken) hands port v w new at refl refl));
        parts = omega (arith, sum, parts_set hands port v w at, k.parts);
        spent = spent_snoc (set hands port w) new (λ none. absurd (omega arith))
            (spent_set hands port w (λ none. absurd (omega arith)) k.spent);
      }

  -- what two hands have together, all have as before
  moved : (f : Hand T → List T) (hands : List (Hand T)) (port other : ℕ) (v u both spent : Hand T) → other ≢ port
      → get_elem? hands port ≡ some v → get_elem? hands other ≡ some u → f both ≡ f v ++ f u → f spent ≡ []
      → IsPermutation (flat_map f hands) (flat_map f (set (set hands port both) other spent))
  moved f hands port other v u both spent apart at there sum none =
      let less : List (Hand T) = set hands other spent in
      let still : get_elem? less port ≡ some v = set_else hands other port spent (λ e. apart (sym e)) ∙ at in
      via (loses f hands other u spent there none)
      (via (gains f less port v both (f u) still (along (sym sum)))
      (along (ap (flat_map f) (sym (set_swap hands port other both spent apart)))))

  pub absorbs : (port : ℕ) (v : Hand T) (other : ℕ) (u : Hand T) → 0 < v.parts
      → Merges Flows port v other u (hand (v.parts + u.parts) (v.put ++ u.put) (v.taken ++ u.taken)) (hand 0 [] [])
  absorbs port v other u some_part items hands k at apart there =
      let both : Hand T = hand (v.parts + u.parts) (v.put ++ u.put) (v.taken ++ u.taken) in
      let spent : Hand T = hand 0 [] [] in
      let was : get_elem? hands other ≡ some u = sym (set_else hands port other both apart) ∙ there in
      record {
        came = k.came;
        went = k.went;
        in_order = k.in_order;
        put = via k.put (moved (λ (h : Hand T). h.put) hands port other v u both spent apart at was refl refl);
        taken = via k.taken (moved (λ (h : Hand T). h.taken) hands port other v u both spent apart at was refl refl);
        parts = omega (arith, parts_set hands port v both at, parts_set (set hands port both) other u spent there, k.parts);
        spent = spent_set (set hands port both) other spent (λ none. (refl, refl))
            (spent_set hands port both (λ none. absurd (omega arith)) k.spent);
      }

  pub totals : (port : ℕ) (v : Hand T) → Learns Flows port v (Totals v)
  totals port v items hands k at every =
      let sum : parts_of hands ≡ v.parts = k.parts ∙ sym every in
      let put : IsPermutation k.came v.put =
      via k.put (along (alone (λ (h : Hand T). h.put) (λ h empty none. (empty none).0) hands port v at sum k.spent)) in
      let taken : IsPermutation k.went v.taken =
      via k.taken (along (alone (λ (h : Hand T). h.taken) (λ h empty none. (empty none).1) hands port v at sum k.spent)) in
      via (IsPermutation-sym k.came v.put put)
      (via (along k.in_order) (IsPermutation-append_left items k.went v.taken taken))
