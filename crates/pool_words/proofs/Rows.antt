-- Rows of loads, and two receipts in one.
use Rattle.std.proofs.Common.{◌≡◌, ℕ, ◌+◌, ◌<◌, List, [], ◌∷◌, ◌++◌, length, take, set, max, sym, refl, ap, ◌∙◌, subst, arith, length-take-le}
use Rattle.std.proofs.lemmas.List.{append_assoc, take_more_set}
use Rattle.pool_words.specs.declared.views.View.{View}
use Rattle.pool_words.specs.declared.views.Sight.{Sight}
use Rattle.pool_words.specs.Views.{sight, sights, absorbed, IsReceipt, high_of}

sights-push : (first : ℕ) (xs : List ℕ) (x : ℕ) → sights first (xs ++ x ∷ []) ≡ sights first xs ++ sight (first + length xs) x ∷ []
sights-push first [] x = ap (λ (n : ℕ). sight n x ∷ []) (omega arith)
sights-push first (y ∷ xs) x =
    ap (λ (ss : List Sight). sight first y ∷ ss)
    (sights-push (first + 1) xs x ∙ ap (λ (n : ℕ). sights (first + 1) xs ++ sight n x ∷ []) (omega arith))

-- the loads so far, with one more
pub sights_more : (seen : List Sight) (first i x : ℕ) (out : List ℕ) → i < length out
    → (seen ++ sights first (take i out)) ++ sight (first + i) x ∷ [] ≡ seen ++ sights first (take (i + 1) (set out i x))
sights_more seen first i x out lt =
    append_assoc seen (sights first (take i out)) (sight (first + i) x ∷ [])
    ∙ ap (λ (ss : List Sight). seen ++ ss) (
    ap (λ (n : ℕ). sights first (take i out) ++ sight (first + n) x ∷ []) (sym (length-take-le i out (omega arith)))
    ∙ sym (sights-push first (take i out) x)
    ∙ ap (sights first) (sym (take_more_set out i x lt))
    )

pub absorbed_is : (v u : View) → IsReceipt v → IsReceipt u → IsReceipt (absorbed v u) × (high_of (absorbed v u) ≡ max (high_of v) (high_of u))
absorbed_is v u mine theirs =
    let P : View × View → Type 0 = λ p. IsReceipt (absorbed p.0 p.1) × (high_of (absorbed p.0 p.1) ≡ max (high_of p.0) (high_of p.1)) in
    subst P (λ i. (sym mine i, sym theirs i)) (refl, refl)
