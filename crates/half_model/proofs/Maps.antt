-- Look-ups in maps and sets that are kept by rising keys, behind a step.
use Rattle.std.proofs.Common.{◌≡◌, Bool, true, false, cond, ◌||◌, List, [], ◌∷◌, map, Some, None, ◌⊎◌, inl, inr, ⊎_elim, subst, refl, sym, ◌∙◌, ap}
use Rattle.std.proofs.Common.{Ordering, Less, Equal, Greater}
use Rattle.std.proofs.lemmas.Bool.{cond-true, cond-false, cond_both, or_left}
use Rattle.std.proofs.lemmas.Cmp.{eq_by_cmp_equiv}
use Rattle.std.proofs.lemmas.List.Elements.{All-from_recursion, recursion_from_All}
use Rattle.std.proofs.lemmas.Map.Lookups.{CmpEqualImpliesEq}
use Rattle.std.proofs.lemmas.Map.Views.{All-keys-insert_entry}
use Rattle.std.specs.BTreeMap.{insert_entry, is_at}
use Rattle.std.specs.BTreeSet.{insert_key}
use Rattle.std.specs.Cmp.{IsTotalOrder}
use Rattle.std.specs.List.{AllByRecursion, list_any}
use Rattle.std.specs.List.Sorted.{IsStrictlySortedBy}
use Rattle.std.specs.Map.{lookup, keys_of, remove_entry, set_value}
use Rattle.std.specs.Ordering.{is_eq, match_ordering, ordering_reverse}

-- what is above a key is above each key below it
above_all : {K : Type 0} {R : K → K → Ordering} (o : IsTotalOrder R) (ks : List K) (low mid : K)
    → R low mid ≡ Less → AllByRecursion (λ k. R mid k ≡ Less) ks → AllByRecursion (λ k. R low k ≡ Less) ks
above_all o [] low mid below all = tt
above_all o (k ∷ ks) low mid below all = (o.trans low mid k below all.0, above_all o ks low mid below all.1)

module _ {K : Type 0} {R : K → K → Ordering} (o : IsTotalOrder R) (exact : CmpEqualImpliesEq R) where
  self : (k : K) → is_eq (R k k) ≡ true
  self k = (eq_by_cmp_equiv o).refl k

  -- a key that compares equal is the same in every test
  same_test : (q k x : K) → R k x ≡ Equal → is_eq (R q x) ≡ is_eq (R q k)
  same_test q k x e = ap (λ (y : K). is_eq (R q y)) (sym (exact k x e))

  module _ {X : Type 0} where
    -- the key that was put
    pub lookup_put : (es : List (K × X)) (k : K) (v : X) → lookup (is_at (R k)) (insert_entry R es k v) ≡ Some v
    lookup_put [] k v = cond-true (is_eq (R k k)) (Some v) None (self k)
    lookup_put (e ∷ es) k v = by (lookup_put es k v) (R k e.0) refl
      where
        by : lookup (is_at (R k)) (insert_entry R es k v) ≡ Some v → (c : Ordering) → R k e.0 ≡ c
            → lookup (is_at (R k)) (match_ordering c ((k, v) ∷ e ∷ es) ((e.0, v) ∷ es) (e ∷ insert_entry R es k v)) ≡ Some v
        by rest Less is = cond-true (is_eq (R k k)) (Some v) _ (self k)
        by rest Equal is = cond-true (is_eq (R k e.0)) (Some v) _ (ap is_eq is)
        by rest Greater is = cond-false (is_eq (R k e.0)) (Some e.1) _ (ap is_eq is) ∙ rest

    -- every other key
    pub lookup_other : (es : List (K × X)) (k q : K) (v : X) → is_eq (R q k) ≡ false
        → lookup (is_at (R q)) (insert_entry R es k v) ≡ lookup (is_at (R q)) es
    lookup_other [] k q v apart = cond-false (is_eq (R q k)) (Some v) None apart
    lookup_other (e ∷ es) k q v apart = by (lookup_other es k q v apart) (R k e.0) refl
      where
        by : lookup (is_at (R q)) (insert_entry R es k v) ≡ lookup (is_at (R q)) es → (c : Ordering) → R k e.0 ≡ c
            → lookup (is_at (R q)) (match_ordering c ((k, v) ∷ e ∷ es) ((e.0, v) ∷ es) (e ∷ insert_entry R es k v)) ≡ lookup (is_at (R q)) (e ∷ es)
        by rest Less is = cond-false (is_eq (R q k)) (Some v) _ apart
        by rest Equal is =
            let no : is_eq (R q e.0) ≡ false = same_test q k e.0 is ∙ apart in
            cond-false (is_eq (R q e.0)) (Some v) _ no ∙ sym (cond-false (is_eq (R q e.0)) (Some e.1) _ no)
        by rest Greater is = ap (cond (is_eq (R q e.0)) (Some e.1)) rest

    -- keys that rise still do
    pub rising_put : (es : List (K × X)) (k : K) (v : X) → IsStrictlySortedBy R (keys_of es) → IsStrictlySortedBy R (keys_of (insert_entry R es k v))
    unfolding IsStrictlySortedBy
    rising_put [] k v sorted = (tt, tt)
    rising_put (e ∷ es) k v sorted = by (rising_put es k v sorted.1) (R k e.0) refl
      where
        by : IsStrictlySortedBy R (keys_of (insert_entry R es k v)) → (c : Ordering) → R k e.0 ≡ c
            → IsStrictlySortedBy R (keys_of (match_ordering c ((k, v) ∷ e ∷ es) ((e.0, v) ∷ es) (e ∷ insert_entry R es k v)))
        by rest Less is = ((is, above_all o (keys_of es) k e.0 is sorted.0), sorted)
        by rest Equal is = sorted
        by rest Greater is =
            let later = All-from_recursion (λ y. R e.0 y ≡ Less) (keys_of es) sorted.0 in
            let at : R e.0 k ≡ Less = o.antisymm e.0 k ∙ ap ordering_reverse is in
            (recursion_from_All (λ y. R e.0 y ≡ Less) (keys_of (insert_entry R es k v)) (All-keys-insert_entry R k v (λ y. R e.0 y ≡ Less) es later at), rest)

  -- a set with one more key
  pub any_put : (ks : List K) (k : K) → list_any (is_at (R k)) (insert_key R ks k) ≡ true
  any_put [] k = or_left (is_eq (R k k)) false (self k)
  any_put (x ∷ xs) k = by (any_put xs k) (R k x) refl
    where
      by : list_any (is_at (R k)) (insert_key R xs k) ≡ true → (c : Ordering) → R k x ≡ c
          → list_any (is_at (R k)) (match_ordering c (k ∷ x ∷ xs) (x ∷ xs) (x ∷ insert_key R xs k)) ≡ true
      by rest Less is = or_left (is_eq (R k k)) _ (self k)
      by rest Equal is = or_left (is_eq (R k x)) _ (ap is_eq is)
      by rest Greater is = ap (λ (b : Bool). is_eq (R k x) || b) rest ∙ ap (λ (b : Bool). b || true) (ap is_eq is)

  pub any_other : (ks : List K) (k q : K) → is_eq (R q k) ≡ false → list_any (is_at (R q)) (insert_key R ks k) ≡ list_any (is_at (R q)) ks
  any_other [] k q apart = ap (λ (b : Bool). b || false) apart
  any_other (x ∷ xs) k q apart = by (any_other xs k q apart) (R k x) refl
    where
      by : list_any (is_at (R q)) (insert_key R xs k) ≡ list_any (is_at (R q)) xs → (c : Ordering) → R k x ≡ c
          → list_any (is_at (R q)) (match_ordering c (k ∷ x ∷ xs) (x ∷ xs) (x ∷ insert_key R xs k)) ≡ list_any (is_at (R q)) (x ∷ xs)
      by rest Less is = ap (λ (b : Bool). b || list_any (is_at (R q)) (x ∷ xs)) apart
      by rest Equal is = refl
      by rest Greater is = ap (λ (b : Bool). is_eq (R q x) || b) rest

-- ---- by cases

module _ {K : Type 0} {R : K → K → Ordering} (o : IsTotalOrder R) (exact : CmpEqualImpliesEq R) where
  -- two keys are one, or no test of the one passes the other
  pub same_or_apart : (q k : K) → (q ≡ k) ⊎ (is_eq (R q k) ≡ false)
  same_or_apart q k = go (R q k) refl
    where
      go : (c : Ordering) → R q k ≡ c → (q ≡ k) ⊎ (is_eq (R q k) ≡ false)
      go Less e = inr (ap is_eq e)
      go Equal e = inl (exact q k e)
      go Greater e = inr (ap is_eq e)

  -- what a look-up finds behind a step: the new value at its key, or what it found before
  pub put_cases : {X : Type 0} (es : List (K × X)) (k q : K) (v : X)
      → ((q ≡ k) × (lookup (is_at (R q)) (insert_entry R es k v) ≡ Some v)) ⊎ (lookup (is_at (R q)) (insert_entry R es k v) ≡ lookup (is_at (R q)) es)
  put_cases {X} es k q v =
      ⊎_elim
      (λ e. inl (e, let P : K → Type 0 = λ x. lookup (is_at (R x)) (insert_entry R es k v) ≡ Some v in subst P (sym e) (lookup_put o exact es k v)))
      (λ no. inr (lookup_other o exact es k q v no))
      (same_or_apart q k)

  pub any_cases : (ks : List K) (k q : K)
      → ((q ≡ k) × (list_any (is_at (R q)) (insert_key R ks k) ≡ true)) ⊎ (list_any (is_at (R q)) (insert_key R ks k) ≡ list_any (is_at (R q)) ks)
  any_cases ks k q =
      ⊎_elim
      (λ e. inl (e, let P : K → Type 0 = λ x. list_any (is_at (R x)) (insert_key R ks k) ≡ true in subst P (sym e) (any_put o exact ks k)))
      (λ no. inr (any_other o exact ks k q no))
      (same_or_apart q k)

-- ---- an entry is removed, or its value is set

all_removed : {K X : Type 0} (P : K → Type 0) (test : K → Bool) (es : List (K × X)) → AllByRecursion P (keys_of es) → AllByRecursion P (keys_of (remove_entry test es))
all_removed P test [] h = tt
all_removed P test (e ∷ es) h =
    cond_both (test e.0) es (e ∷ remove_entry test es) (λ all. AllByRecursion P (keys_of all)) (λ yes. h.1) (λ apart. (h.0, all_removed P test es h.1))

pub rising_remove : {K X : Type 0} (R : K → K → Ordering) (test : K → Bool) (es : List (K × X)) → IsStrictlySortedBy R (keys_of es) → IsStrictlySortedBy R (keys_of (remove_entry test es))
unfolding IsStrictlySortedBy
rising_remove R test [] h = tt
rising_remove R test (e ∷ es) h =
    cond_both (test e.0) es (e ∷ remove_entry test es) (λ all. IsStrictlySortedBy R (keys_of all))
    (λ yes. h.1) (λ apart. (all_removed (λ k. R e.0 k ≡ Less) test es h.0, rising_remove R test es h.1))

pub lookup_set : {K X : Type 0} (test : K → Bool) (es : List (K × X)) (v w : X) → lookup test es ≡ Some v → lookup test (set_value test es w) ≡ Some w
lookup_set test [] v w e = absurd cc
lookup_set test (x ∷ xs) v w e = by (λ f. lookup_set test xs v w f) (test x.0) refl e
  where
    by : (lookup test xs ≡ Some v → lookup test (set_value test xs w) ≡ Some w) → (b : Bool) → test x.0 ≡ b
        → cond b (Some x.1) (lookup test xs) ≡ Some v → lookup test (cond b ((x.0, w) ∷ xs) (x ∷ set_value test xs w)) ≡ Some w
    by rest true is f = cond-true (test x.0) (Some w) (lookup test xs) is
    by rest false is f = cond-false (test x.0) (Some x.1) (lookup test (set_value test xs w)) is ∙ rest f

-- ---- values that are set or mapped

-- the values of the entries, mapped
abbrev pub mapped : {K X Y : Type 0} → (X → Y) → List (K × X) → List (K × Y)
mapped g es = map (λ e. (e.0, g e.1)) es

pub mapped-put : {K X Y : Type 0} (R : K → K → Ordering) (g : X → Y) (es : List (K × X)) (k : K) (v : X) → mapped g (insert_entry R es k v) ≡ insert_entry R (mapped g es) k (g v)
mapped-put R g [] k v = refl
mapped-put R g (e ∷ es) k v = by (mapped-put R g es k v) (R k e.0)
  where
    by : mapped g (insert_entry R es k v) ≡ insert_entry R (mapped g es) k (g v) → (c : Ordering)
        → mapped g (match_ordering c ((k, v) ∷ e ∷ es) ((e.0, v) ∷ es) (e ∷ insert_entry R es k v))
        ≡ match_ordering c ((k, g v) ∷ (e.0, g e.1) ∷ mapped g es) ((e.0, g v) ∷ mapped g es) ((e.0, g e.1) ∷ insert_entry R (mapped g es) k (g v))
    by rest Less = refl
    by rest Equal = refl
    by rest Greater = ap (λ all. (e.0, g e.1) ∷ all) rest

pub mapped-set : {K X Y : Type 0} (test : K → Bool) (g : X → Y) (es : List (K × X)) (w : X) → mapped g (set_value test es w) ≡ set_value test (mapped g es) (g w)
mapped-set test g [] w = refl
mapped-set test g (e ∷ es) w = by (mapped-set test g es w) (test e.0)
  where
    by : mapped g (set_value test es w) ≡ set_value test (mapped g es) (g w) → (b : Bool)
        → mapped g (cond b ((e.0, w) ∷ es) (e ∷ set_value test es w)) ≡ cond b ((e.0, g w) ∷ mapped g es) ((e.0, g e.1) ∷ set_value test (mapped g es) (g w))
    by rest true = refl
    by rest false = ap (λ all. (e.0, g e.1) ∷ all) rest

module _ {K : Type 0} {R : K → K → Ordering} (o : IsTotalOrder R) where
  -- nothing stands at a key below all
  none_above : {X : Type 0} (k : K) (es : List (K × X)) → AllByRecursion (λ y. R k y ≡ Less) (keys_of es) → lookup (is_at (R k)) es ≡ None
  none_above k [] h = refl
  none_above k (e ∷ es) h = cond-false (is_eq (R k e.0)) (Some e.1) _ (ap is_eq h.0) ∙ none_above k es h.1

  -- to set the value of a key that is there is to put it
  pub set_is_put : {X : Type 0} (k : K) (es : List (K × X)) (v w : X) → IsStrictlySortedBy R (keys_of es) → lookup (is_at (R k)) es ≡ Some v
      → set_value (is_at (R k)) es w ≡ insert_entry R es k w
  unfolding IsStrictlySortedBy
  set_is_put k [] v w sorted e = absurd cc
  set_is_put k (x ∷ es) v w sorted e = by (λ f. set_is_put k es v w sorted.1 f) (R k x.0) refl e
    where
      by : (lookup (is_at (R k)) es ≡ Some v → set_value (is_at (R k)) es w ≡ insert_entry R es k w) → (c : Ordering) → R k x.0 ≡ c
          → cond (is_eq (R k x.0)) (Some x.1) (lookup (is_at (R k)) es) ≡ Some v
          → cond (is_eq (R k x.0)) ((x.0, w) ∷ es) (x ∷ set_value (is_at (R k)) es w) ≡ match_ordering c ((k, w) ∷ x ∷ es) ((x.0, w) ∷ es) (x ∷ insert_entry R es k w)
      by rest Less is f =
          let none = none_above k es (above_all o (keys_of es) k x.0 is sorted.0) in
          let found = sym (cond-false (is_eq (R k x.0)) (Some x.1) (lookup (is_at (R k)) es) (ap is_eq is)) ∙ f in
          absurd cc
      by rest Equal is f = cond-true (is_eq (R k x.0)) ((x.0, w) ∷ es) _ (ap is_eq is)
      by rest Greater is f =
          cond-false (is_eq (R k x.0)) _ (x ∷ set_value (is_at (R k)) es w) (ap is_eq is)
          ∙ ap (λ all. x ∷ all) (rest (sym (cond-false (is_eq (R k x.0)) (Some x.1) (lookup (is_at (R k)) es) (ap is_eq is)) ∙ f))
