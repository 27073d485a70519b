-- The entries of an ordered map and the keys of an ordered set, behind one that was put among them: what a look-up finds, and that the keys still rise.
use Rattle.std.proofs.Common.{◌≡◌, Bool, true, false, cond, ◌||◌, List, [], ◌∷◌, Some, refl, sym, ◌∙◌, ap}
use Rattle.std.specs.Cmp.{IsTotalOrder}
use Rattle.std.proofs.Common.{Ordering, Less, Equal, Greater}
use Rattle.std.specs.Ordering.{ordering_reverse, is_eq, match_ordering, eq_by_cmp}
use Rattle.std.specs.List.{AllByRecursion, list_any}
use Rattle.std.specs.List.Sorted.{IsStrictlySortedBy}
use Rattle.std.specs.BTreeMap.{insert_entry}
use Rattle.std.specs.BTreeSet.{insert_key}
use Rattle.std.specs.Map.{lookup, keys_of}
use Rattle.std.proofs.lemmas.Cmp.{eq_by_cmp_equiv}
use Rattle.std.proofs.lemmas.List.Elements.{All-from_recursion, recursion_from_All}
use Rattle.std.proofs.lemmas.Map.Views.{All-keys-insert_entry}

-- the same choice twice
chosen_twice : {A : Type 0} (b c : Bool) (x y z : A) → c ≡ b → cond c x z ≡ cond b x (cond c y z)
chosen_twice true true x y z same = refl
chosen_twice true false x y z same = absurd cc
chosen_twice false true x y z same = absurd cc
chosen_twice false false x y z same = refl

-- two choices of which at most one is made
chosen_apart : {A : Type 0} (b c : Bool) (x y z : A) → (c ≡ true → b ≡ false) → cond b y (cond c x z) ≡ cond c x (cond b y z)
chosen_apart true true x y z apart = absurd (let no = apart refl in cc)
chosen_apart true false x y z apart = refl
chosen_apart false true x y z apart = refl
chosen_apart false false x y z apart = refl

-- what is above a key is above each key below it
all_below : {K : Type 0} {R : K → K → Ordering} (o : IsTotalOrder R) (ks : List K) (k x : K)
    → R k x ≡ Less → AllByRecursion (λ y. R x y ≡ Less) ks → AllByRecursion (λ y. R k y ≡ Less) ks
all_below o [] k x below all = tt
all_below o (y ∷ ks) k x below all = (o.trans k x y below all.0, all_below o ks k x below all.1)

-- the same test twice, and two tests in another order
once : (a b : Bool) → (a || b) ≡ (a || (a || b))
once true b = refl
once false b = refl

swapped : (a b c : Bool) → (a || (b || c)) ≡ (b || (a || c))
swapped true true c = refl
swapped true false c = refl
swapped false b c = refl

module _ {K X : Type 0} {R : K → K → Ordering} (o : IsTotalOrder R) where
  -- a look-up after an entry was put in its place
  pub lookup-insert_entry : (es : List (K × X)) (k q : K) (v : X)
      → lookup (eq_by_cmp R q) (insert_entry R es k v) ≡ cond (eq_by_cmp R k q) (Some v) (lookup (eq_by_cmp R q) es)
  lookup-insert_entry [] k q v = ap (λ (b : Bool). cond b (Some v) (lookup (eq_by_cmp R q) [])) ((eq_by_cmp_equiv o).symm q k)
  lookup-insert_entry (e ∷ es) k q v = by (lookup-insert_entry es k q v) (R k e.0) refl
    where
      by : lookup (eq_by_cmp R q) (insert_entry R es k v) ≡ cond (eq_by_cmp R k q) (Some v) (lookup (eq_by_cmp R q) es)
          → (c : Ordering) → R k e.0 ≡ c
          → lookup (eq_by_cmp R q) (match_ordering c ((k, v) ∷ e ∷ es) ((e.0, v) ∷ es) (e ∷ insert_entry R es k v))
          ≡ cond (eq_by_cmp R k q) (Some v) (lookup (eq_by_cmp R q) (e ∷ es))
      by rest Less is =
          ap (λ (b : Bool). cond b (Some v) (lookup (eq_by_cmp R q) (e ∷ es))) ((eq_by_cmp_equiv o).symm q k)
      by rest Equal is =
          chosen_twice (eq_by_cmp R k q) (eq_by_cmp R q e.0) (Some v) (Some e.1) (lookup (eq_by_cmp R q) es)
          ((eq_by_cmp_equiv o).symm q e.0 ∙ sym ((eq_by_cmp_equiv o).congr k e.0 q (ap is_eq is)))
      by rest Greater is =
          ap (cond (eq_by_cmp R q e.0) (Some e.1)) rest
          ∙ chosen_apart (eq_by_cmp R q e.0) (eq_by_cmp R k q) (Some v) (Some e.1) (lookup (eq_by_cmp R q) es)
          (λ found. sym ((eq_by_cmp_equiv o).congr k q e.0 found) ∙ ap is_eq is)

  -- keys that rise still do
  pub sorted-insert_entry : (es : List (K × X)) (k : K) (v : X)
      → IsStrictlySortedBy R (keys_of es) → IsStrictlySortedBy R (keys_of (insert_entry R es k v))
  unfolding IsStrictlySortedBy
  sorted-insert_entry [] k v sorted = (tt, tt)
  sorted-insert_entry (e ∷ es) k v sorted = by (sorted-insert_entry es k v sorted.1) (R k e.0) refl
    where
      by : IsStrictlySortedBy R (keys_of (insert_entry R es k v)) → (c : Ordering) → R k e.0 ≡ c
          → IsStrictlySortedBy R (keys_of (match_ordering c ((k, v) ∷ e ∷ es) ((e.0, v) ∷ es) (e ∷ insert_entry R es k v)))
      by rest Less is =
          ((is, all_below o (keys_of es) k e.0 is sorted.0), sorted)
      by rest Equal is = sorted
      by rest Greater is = (
        recursion_from_All (λ y. R e.0 y ≡ Less) (keys_of (insert_entry R es k v))
            (All-keys-insert_entry R k v (λ y. R e.0 y ≡ Less) es (All-from_recursion (λ y. R e.0 y ≡ Less) (keys_of es) sorted.0)
            (o.antisymm e.0 k ∙ ap ordering_reverse is)),
        rest,
      )

module _ {K : Type 0} {R : K → K → Ordering} (o : IsTotalOrder R) where
  -- whether a key is there after one was put in its place
  pub list_any-insert_key : (ks : List K) (k q : K)
      → list_any (eq_by_cmp R q) (insert_key R ks k) ≡ (eq_by_cmp R q k || list_any (eq_by_cmp R q) ks)
  list_any-insert_key [] k q = refl
  list_any-insert_key (x ∷ xs) k q = by (list_any-insert_key xs k q) (R k x) refl
    where
      by : list_any (eq_by_cmp R q) (insert_key R xs k) ≡ (eq_by_cmp R q k || list_any (eq_by_cmp R q) xs)
          → (c : Ordering) → R k x ≡ c
          → list_any (eq_by_cmp R q) (match_ordering c (k ∷ x ∷ xs) (x ∷ xs) (x ∷ insert_key R xs k))
          ≡ (eq_by_cmp R q k || list_any (eq_by_cmp R q) (x ∷ xs))
      by rest Less is = refl
      by rest Equal is =
          let same : eq_by_cmp R q k ≡ eq_by_cmp R q x =
          (eq_by_cmp_equiv o).symm q k ∙ (eq_by_cmp_equiv o).congr k x q (ap is_eq is) ∙ (eq_by_cmp_equiv o).symm x q
          in
          once (eq_by_cmp R q x) (list_any (eq_by_cmp R q) xs)
          ∙ ap (λ (b : Bool). b || list_any (eq_by_cmp R q) (x ∷ xs)) (sym same)
      by rest Greater is =
          ap (λ (b : Bool). eq_by_cmp R q x || b) rest
          ∙ swapped (eq_by_cmp R q x) (eq_by_cmp R q k) (list_any (eq_by_cmp R q) xs)
