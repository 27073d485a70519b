-- What a longer history says of the words: a write behind the first k changes nothing that stood after the first k.
use Rattle.std.proofs.Common.{◌≡◌, ◌≢◌, ℕ, ◌+◌, ◌≤◌, List, [], ◌∷◌, ◌++◌, length, sym, refl, ap, ◌∙◌, arith, eq-eqb, ne_eqb, length-append, take_all}
use Rattle.std.specs.Prelude.{if◌then◌else◌, ◌==◌}
use Rattle.std.proofs.lemmas.List.{take-append-le}
use Rattle.pool_words.specs.declared.views.Write.{Write}
use Rattle.pool_words.specs.declared.views.Load.{Load}
use Rattle.pool_words.specs.declared.views.Sight.{Sight}
use Rattle.pool_words.specs.History.{held_after, at, Stood, HasStood, HasStoodSince}

pub at_front : (h more : List Write) (k i : ℕ) → k ≤ length h → at (h ++ more) k i ≡ at h k i
at_front h more k i le = ap (λ (ws : List Write). held_after ws i 0) (take-append-le k h more le)

held_after-push : (h : List Write) (w : Write) (i v : ℕ) → held_after (h ++ w ∷ []) i v ≡ (if w.word == i then w.value else held_after h i v)
held_after-push [] w i v = refl
held_after-push (x ∷ h) w i v = held_after-push h w i (if x.word == i then x.value else v)

-- the word that the last write names
pub at_end_same : (h : List Write) (w : Write) (n i : ℕ) → n ≡ length h + 1 → w.word ≡ i → at (h ++ w ∷ []) n i ≡ w.value
at_end_same h w n i e same =
    ap (λ (ws : List Write). held_after ws i 0) (take_all n (h ++ w ∷ []) (omega (arith, length-append h (w ∷ []))))
    ∙ held_after-push h w i 0
    ∙ ap (λ b. if b then w.value else held_after h i 0) (eq-eqb w.word i same)

-- any other word
pub at_end_other : (h : List Write) (w : Write) (n i : ℕ) → n ≡ length h + 1 → w.word ≢ i → at (h ++ w ∷ []) n i ≡ at h (length h) i
at_end_other h w n i e other =
    ap (λ (ws : List Write). held_after ws i 0) (take_all n (h ++ w ∷ []) (omega (arith, length-append h (w ∷ []))))
    ∙ held_after-push h w i 0
    ∙ ap (λ b. if b then w.value else held_after h i 0) (ne_eqb w.word i other)
    ∙ ap (λ (ws : List Write). held_after ws i 0) (sym (take_all (length h) h (omega arith)))

pub stood_more : (h more : List Write) (low high wider i v : ℕ) → high ≤ length h → high ≤ wider → Stood h low high i v → Stood (h ++ more) low wider i v
stood_more h more low high wider i v inside le s = (s.0, s.1, omega arith, at_front h more s.0 i (omega arith) ∙ s.3)

pub has_stood_more : (h more : List Write) (l : Load) → HasStood h l → HasStood (h ++ more) l
has_stood_more h more l s = (omega (arith, length-append h more), stood_more h more l.low l.high l.high l.word l.value s.0 (omega arith) s.1)

pub since_more : (h more : List Write) (low : ℕ) (s : Sight) → HasStoodSince h low s → HasStoodSince (h ++ more) low s
since_more h more low s stood = stood_more h more low (length h) (length (h ++ more)) s.word s.value (omega arith) (omega (arith, length-append h more)) stood
