-- A stretch of the history in which no write names a word. The writes up to its end are those up to its beginning, and
-- then those of the stretch, which leave the word as it was.
use Rattle.std.proofs.Common.{◌≡◌, ◌≢◌, ℕ, ◌+◌, ◌-◌, ◌≤◌, List, [], ◌∷◌, ◌++◌, length, take, drop, sym, refl, ap, ◌∙◌, subst, arith, ne_eqb, eq-eqb, take_all}
use Rattle.std.specs.Prelude.{All, if◌then◌else◌, ◌==◌}
use Rattle.std.proofs.lemmas.List.{take-append-drop, take-take, drop-take}
use Rattle.std.proofs.lemmas.List.Elements.{All-head, All-tail, All-take}
use Rattle.pool_words.specs.declared.views.Write.{Write}
use Rattle.pool_words.specs.History.{held_after, Untouched}
use Rattle.pool_words.specs.Laws.{LastWriteStands, UnnamedIsZero, UntouchedStays, UntouchedIsCommitted}

held_after-append : (xs ys : List Write) (i v : ℕ) → held_after (xs ++ ys) i v ≡ held_after ys i (held_after xs i v)
held_after-append [] ys i v = refl
held_after-append (x ∷ xs) ys i v = held_after-append xs ys i (if x.word == i then x.value else v)

held_after_untouched : (ws : List Write) (i v : ℕ) → All (λ w. w.word ≢ i) ws → held_after ws i v ≡ v
held_after_untouched [] i v none = refl
held_after_untouched (w ∷ ws) i v none =
    ap (λ b. held_after ws i (if b then w.value else v)) (ne_eqb w.word i (All-head (λ (u : Write). u.word ≢ i) w ws none))
    ∙ held_after_untouched ws i v (All-tail (λ (u : Write). u.word ≢ i) w ws none)

pub last_write : LastWriteStands
last_write before after w none =
    ap (λ (ws : List Write). held_after ws w.word 0) (take_all (length (before ++ w ∷ after)) (before ++ w ∷ after) (omega arith))
    ∙ held_after-append before (w ∷ after) w.word 0
    ∙ held_after_untouched after w.word (if w.word == w.word then w.value else held_after before w.word 0) none
    ∙ ap (λ b. if b then w.value else held_after before w.word 0) (eq-eqb w.word w.word refl)

pub unnamed : UnnamedIsZero
unnamed h k i none = held_after_untouched (take k h) i 0 none

pub untouched : UntouchedStays
untouched h low high i le none =
    let front : take low (take high h) ++ drop low (take high h) ≡ take high h = take-append-drop low (take high h) in
    ap (λ (ws : List Write). held_after ws i 0) (sym front)
    ∙ held_after-append (take low (take high h)) (drop low (take high h)) i 0
    ∙ held_after_untouched (drop low (take high h)) i (held_after (take low (take high h)) i 0) none
    ∙ ap (λ (ws : List Write). held_after ws i 0) (take-take low high h le)

-- a shorter stretch from the same beginning
shorter : (h : List Write) (low k high i : ℕ) → low ≤ k → k ≤ high → Untouched h low high i → Untouched h low k i
shorter h low k high i above below none =
    let P : Write → Type 0 = λ w. w.word ≢ i in
    let split : low + (k - low) ≡ k = omega arith in
    let part : take (k - low) (drop low (take high h)) ≡ drop low (take k h) =
    sym (drop-take low (k - low) (take high h))
    ∙ ap (λ (n : ℕ). drop low (take n (take high h))) split
    ∙ ap (drop low) (take-take k high h below) in
    subst (λ (ws : List Write). All P ws) part (All-take P (k - low) (drop low (take high h)) none)

pub committed : UntouchedIsCommitted
committed h low high i v stood none = sym stood.3 ∙ untouched h low stood.0 i stood.1 (shorter h low stood.0 high i stood.1 stood.2 none)
