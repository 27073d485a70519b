-- Two lists of bytes are the same up to the first place where one of them has another byte, or none.
use Rattle.std.proofs.Common.{◌≡◌, ◌≢◌, ℕ, suc, ◌+◌, ◌<◌, ◌≤◌, cond, Bool, true, false, List, [], ◌∷◌, length, take, Option, Some, None, MatchOption, Bor, refl, sym, ap, ◌∙◌, subst, arith}
use Rattle.std.proofs.lemmas.Bool.{eqb-true, eqb-false}
use Rattle.std.proofs.lemmas.List.{take_all}
use Rattle.std.proofs.lemmas.Option.{slice_get-get_or, slice_get_past}
use Rattle.std.specs.List.{HoldsAt, zip, take_while, prefix_len}
use Rattle.std.specs.Option.{option_copied}
use Rattle.std.specs.Prelude.{slice_get, ◌==◌}
use Rattle.plain_lists.specs.Fronts.{IsFront}
use Rattle.plain_lists.proofs.FrontLemmas.{IsFront-take}

-- how many bytes are the same at the beginning of both
abbrev pub shared : List ℕ → List ℕ → ℕ
shared [] written = 0
shared (byte ∷ read) [] = 0
shared (byte ∷ read) (wrote ∷ written) = cond (byte == wrote) (suc (shared read written)) 0

one_more : (b : Bool) (count : ℕ) (pair : ℕ × ℕ) (pairs : List (ℕ × ℕ)) (n : ℕ) → length (take count pairs) ≡ n
    → length (take (cond b (1 + count) 0) (pair ∷ pairs)) ≡ cond b (suc n) 0
one_more true count pair pairs n more =
    let first : 1 + count ≡ suc count = omega arith in
    ap (λ (k : ℕ). length (take k (pair ∷ pairs))) first ∙ ap (λ (k : ℕ). suc k) more
one_more false count pair pairs n more = refl

pub shared_is : (read written : List ℕ) → length (take_while (λ (pair : ℕ × ℕ). pair.0 == pair.1) (zip read written)) ≡ shared read written
shared_is [] written = refl
shared_is (byte ∷ read) [] = refl
shared_is (byte ∷ read) (wrote ∷ written) =
    one_more (byte == wrote) (prefix_len (λ (pair : ℕ × ℕ). pair.0 == pair.1) (zip read written)) (byte, wrote) (zip read written) (shared read written) (shared_is read written)

pub same_before : (read written : List ℕ) → take (shared read written) read ≡ take (shared read written) written
same_before [] written = refl
same_before (byte ∷ read) [] = refl
same_before (byte ∷ read) (wrote ∷ written) = go (byte == wrote) refl (same_before read written)
  where
    go : (b : Bool) → (byte == wrote) ≡ b → take (shared read written) read ≡ take (shared read written) written
        → take (cond b (suc (shared read written)) 0) (byte ∷ read) ≡ take (cond b (suc (shared read written)) 0) (wrote ∷ written)
    go true is more = let e : byte ≡ wrote = eqb-true byte wrote is in cc
    go false is more = refl

pub differs_there : (read written : List ℕ) (byte : ℕ) → slice_get read (shared read written) ≡ Some byte → slice_get written (shared read written) ≢ Some byte
differs_there [] written byte reads wrote = absurd cc
differs_there (b ∷ read) [] byte reads wrote = absurd cc
differs_there (b ∷ read) (w ∷ written) byte reads wrote = go (b == w) refl (differs_there read written byte) reads wrote
  where
    go : (same : Bool) → (b == w) ≡ same → (slice_get read (shared read written) ≡ Some byte → slice_get written (shared read written) ≢ Some byte)
        → slice_get (b ∷ read) (cond same (suc (shared read written)) 0) ≡ Some byte → slice_get (w ∷ written) (cond same (suc (shared read written)) 0) ≢ Some byte
    go true is more reads wrote = more reads wrote
    go false is more reads wrote = let e : b ≡ w = cc in eqb-false b w is e

-- where all that was read is shared, it begins what was written
pub all_shared : (read written : List ℕ) → length read ≤ shared read written → IsFront read written
all_shared read written all =
    subst (λ (xs : List ℕ). IsFront xs written) (sym (same_before read written) ∙ take_all (shared read written) read all) (IsFront-take (shared read written) written)

-- what a look into a list gives
pub copied_at : (xs : List ℕ) (i : ℕ) (o : Option (Bor ℕ)) → MatchOption o (length xs ≤ i) (λ x. (i < length xs) × HoldsAt (λ y. x.now ≡ y) xs i) → slice_get xs i ≡ option_copied o
copied_at xs i None past = slice_get_past xs i past
copied_at xs i (Some x) within = slice_get-get_or xs i 0 within.0 ∙ ap (λ (y : ℕ). Some y) (sym (within.1 0))
