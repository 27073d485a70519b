-- Finding a row of a list by its name: what is found has the name, and where names differ each row is found.
use Rattle.std.proofs.Common.{◌≡◌, ℕ, zero, suc, ◌+◌, List, [], ◌∷◌, refl, sym, ap, ◌∙◌, arith, rules, Bool, true, false, ◌&&◌, map, not, cond, Option, Some}
use Rattle.std.specs.List.{position_from, list_all, slice_get, find}
use Rattle.std.specs.Str.{bytes_eq}
use Rattle.std.proofs.lemmas.Slice.Eq.{bytes_eq-Decides}
use Rattle.wl_tables.specs.Places.{MessageRow}

-- a search in a list of images is one in the list
pub position_from_map : {X Y : Type 0} (f : X → Y) (test : Y → Bool) (i : ℕ) (xs : List X) → position_from test i (map f xs) ≡ position_from (λ x. test (f x)) i xs
position_from_map f test i [] = refl
position_from_map f test i (x ∷ xs) = ap (cond (test (f x)) (Some i)) (position_from_map f test (i + 1) xs)

both_true : (a b : Bool) → (a && b) ≡ true → (a ≡ true) × (b ≡ true)
both_true true b both = (refl, both)
both_true false b both = search rules

some_same : {X : Type 0} (test : X → Bool) (y x : X) → Some y ≡ Some x → test y ≡ true → test x ≡ true
some_same test y x same passes = grind arith

find_head : {X : Type 0} (test : X → Bool) (y x : X) (rest : Option X) (b : Bool) → test y ≡ b → (rest ≡ Some x → test x ≡ true) → cond b (Some y) rest ≡ Some x → test x ≡ true
find_head test y x rest true passes later found = some_same test y x found passes
find_head test y x rest false passes later found = later found

-- what is found passes the test
pub find_passes : {X : Type 0} (test : X → Bool) (xs : List X) (x : X) → find test xs ≡ Some x → test x ≡ true
find_passes test [] x found = search rules
find_passes test (y ∷ ys) x found = find_head test y x (find test ys) (test y) refl (find_passes test ys x) found

-- an element of the list passes, so many places behind the first
abbrev pub IsAt : {X : Type 0} → (X → Bool) → List X → ℕ → ℕ → Type 0
IsAt {X} test xs i k = (j : ℕ) × (k ≡ i + j) × ((x : X) × (slice_get xs j ≡ Some x) × (test x ≡ true))

position_head : {X : Type 0} (test : X → Bool) (y : X) (ys : List X) (i k : ℕ) (rest : Option ℕ) (b : Bool) → test y ≡ b → (rest ≡ Some k → IsAt test ys (i + 1) k) → cond b (Some i) rest ≡ Some k → IsAt test (y ∷ ys) i k
position_head test y ys i k rest true passes later found = (0, grind arith, (y, refl, passes))
position_head test y ys i k rest false passes later found = let at = later found in (suc at.0, omega (arith, at.1), at.2)

-- what is found passes the test, at the place that is told
pub position_passes : {X : Type 0} (test : X → Bool) (xs : List X) (i k : ℕ) → position_from test i xs ≡ Some k → IsAt test xs i k
position_passes test [] i k found = search rules
position_passes test (y ∷ ys) i k found = position_head test y ys i k (position_from test (i + 1) ys) (test y) refl (position_passes test ys (i + 1) k) found

all_at : {X : Type 0} (test : X → Bool) (xs : List X) (k : ℕ) (x : X) → list_all test xs ≡ true → slice_get xs k ≡ Some x → test x ≡ true
all_at test [] k x all at = search rules
all_at test (y ∷ ys) zero x all at = some_same test y x at (both_true (test y) (list_all test ys) all).0
all_at test (y ∷ ys) (suc k) x all at = all_at test ys k x (both_true (test y) (list_all test ys) all).1 at

-- no two rows have one name
abbrev pub names_differ : List MessageRow → Bool
names_differ [] = true
names_differ (it ∷ rows) = list_all (λ other. not (bytes_eq it.name other.name)) rows && names_differ rows

not_true : (b : Bool) → not b ≡ true → b ≡ false
not_true true h = search rules
not_true false h = refl

-- where names differ a row is found by its name
pub found_at : (rows : List MessageRow) (i k : ℕ) (it : MessageRow) → names_differ rows ≡ true → slice_get rows k ≡ Some it → position_from (λ other. bytes_eq other.name it.name) i rows ≡ Some (i + k)
found_at [] i k it differ at = search rules
found_at (first ∷ rows) i zero it differ at =
    let same : bytes_eq first.name it.name ≡ true = some_same (λ other. bytes_eq other.name it.name) it first (sym at) ((bytes_eq-Decides it.name it.name).1 refl) in
    ap (λ b. cond b (Some i) (position_from (λ other. bytes_eq other.name it.name) (i + 1) rows)) same ∙ ap Some (omega arith)
found_at (first ∷ rows) i (suc k) it differ at =
    let parts = both_true (list_all (λ other. not (bytes_eq first.name other.name)) rows) (names_differ rows) differ in
    let other : bytes_eq first.name it.name ≡ false = not_true _ (all_at (λ other. not (bytes_eq first.name other.name)) rows k it parts.0 at) in
    ap (λ b. cond b (Some i) (position_from (λ other. bytes_eq other.name it.name) (i + 1) rows)) other
    ∙ found_at rows (i + 1) k it parts.1 at ∙ ap Some (omega arith)
