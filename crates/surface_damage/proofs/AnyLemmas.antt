-- Lemmas on tests of all numbers below one.
use Rattle.std.proofs.Common.{◌≡◌, ℕ, zero, suc, ◌+◌, ◌-◌, ◌*◌, ◌<◌, ◌≤◌, Bool, true, false, ◌||◌, refl, ap, ◌∙◌, sym, arith, ⊎_elim}
use Rattle.std.proofs.lemmas.Bool.{false≢true, or_cases, or_left, or_right, cases_eq, false_from_ne_true}
use Rattle.surface_damage.specs.Images.{any_below, holds}

-- two tests that are true together are one
pub same_test : (a b : Bool) → (a ≡ true → b ≡ true) → (b ≡ true → a ≡ true) → a ≡ b
same_test true b there back = sym (there refl)
same_test false true there back = back refl
same_test false false there back = refl

-- one of the numbers below `count`, which passes
pub record Found (test : ℕ → Bool) (count : ℕ) : Type 0 where
  pub at : ℕ
  pub below : at < count
  pub passes : test at ≡ true

pub any_found : (test : ℕ → Bool) (count : ℕ) → any_below test count ≡ true → Found test count
unfolding any_below
any_found test zero h = absurd (false≢true h)
any_found test (suc count) h =
    ⊎_elim (λ e. record { at = count; below = omega arith; passes = e })
    (λ e. let f = any_found test count e in let l : f.at < count = f.below in record { at = f.at; below = omega arith; passes = f.passes })
    (or_cases (test count) (any_below test count) h)

below : (k count : ℕ) → k < suc count → (k ≡ count → ⊥) → k < count
below k count l e = grind arith

pub any_from : (test : ℕ → Bool) (count k : ℕ) → k < count → test k ≡ true → any_below test count ≡ true
unfolding any_below
any_from test zero k l h = absurd (omega arith)
any_from test (suc count) k l h =
    ⊎_elim (λ e. or_left (test count) (any_below test count) (ap test (sym e) ∙ h))
    (λ e. or_right (test count) (any_below test count) (any_from test count k (below k count l e) h))
    (cases_eq k count)

one_more : (count : ℕ) → suc count ≡ count + 1
one_more count = omega arith

any_step : (test : ℕ → Bool) (count : ℕ) → any_below test (suc count) ≡ (test count || any_below test count)
unfolding any_below
any_step test count = refl

pub any_more : (test : ℕ → Bool) (count : ℕ) → any_below test (count + 1) ≡ (test count || any_below test count)
any_more test count = ap (any_below test) (sym (one_more count)) ∙ any_step test count

pub any_none : (test : ℕ → Bool) (count : ℕ) → ((k : ℕ) → k < count → test k ≡ true → ⊥) → any_below test count ≡ false
any_none test count none = false_from_ne_true (any_below test count) (λ e. let f = any_found test count e in none f.at f.below f.passes)

-- tests that agree below a number
pub any_same : (test other : ℕ → Bool) (count : ℕ) → ((k : ℕ) → k < count → test k ≡ other k) → any_below test count ≡ any_below other count
any_same test other count same =
    same_test (any_below test count) (any_below other count)
    (λ e. let f = any_found test count e in any_from other count f.at f.below (sym (same f.at f.below) ∙ f.passes))
    (λ e. let f = any_found other count e in any_from test count f.at f.below (same f.at f.below ∙ f.passes))

-- either of two tests
pub any_either : (test other : ℕ → Bool) (count : ℕ) → any_below (λ k. test k || other k) count ≡ (any_below test count || any_below other count)
any_either test other count =
    same_test (any_below (λ k. test k || other k) count) (any_below test count || any_below other count)
    (λ e. let f = any_found (λ k. test k || other k) count e in
    ⊎_elim (λ t. or_left (any_below test count) (any_below other count) (any_from test count f.at f.below t))
    (λ t. or_right (any_below test count) (any_below other count) (any_from other count f.at f.below t))
    (or_cases (test f.at) (other f.at) f.passes))
    (λ e. ⊎_elim
    (λ t. let f = any_found test count t in any_from (λ k. test k || other k) count f.at f.below (or_left (test f.at) (other f.at) f.passes))
    (λ t. let f = any_found other count t in any_from (λ k. test k || other k) count f.at f.below (or_right (test f.at) (other f.at) f.passes))
    (or_cases (any_below test count) (any_below other count) e))

back : (block at : ℕ) → 64 * block ≤ at → 64 * block + (at - 64 * block) ≡ at
back block at from = omega arith

-- the byte of a block that passes
pub holds_byte : (test : ℕ → Bool) (block at : ℕ) → 64 * block ≤ at → at < 64 * block + 64 → test at ≡ true → holds test block ≡ true
holds_byte test block at from till passes =
    any_from (λ k. test (64 * block + k)) 64 (at - 64 * block) (omega arith) (ap test (back block at from) ∙ passes)

pub holds_same : (test other : ℕ → Bool) (block : ℕ) → ((at : ℕ) → test at ≡ other at) → holds test block ≡ holds other block
holds_same test other block same = any_same (λ k. test (64 * block + k)) (λ k. other (64 * block + k)) 64 (λ k l. same (64 * block + k))

pub holds_either : (test other : ℕ → Bool) (block : ℕ) → holds (λ at. test at || other at) block ≡ (holds test block || holds other block)
holds_either test other block = any_either (λ k. test (64 * block + k)) (λ k. other (64 * block + k)) 64

pub holds_none : (block : ℕ) → holds (λ at. false) block ≡ false
holds_none block = any_none (λ k. false) 64 (λ k l e. false≢true e)
