-- One more read, and one more write.
use Rattle.std.proofs.Common.{◌≡◌, ℕ, ◌+◌, ◌<◌, ◌≤◌, List, [], ◌++◌, Option, Some, None, length, take, drop, refl, ap, ◌∙◌, sym, subst, append_assoc, arith, length-append}
use Rattle.std.proofs.lemmas.List.{append-nil}
use Rattle.std.proofs.Math.Seq.{take-add}
use Rattle.wp_outside.specs.Pieces.{IfTold, held_with}
use Rattle.waypipe_run.specs.Moving.{Took, TookAtMost, TookNoMore}

-- what is written behind a text
pub held_more : (held : Option (List ℕ)) (text : List ℕ) (n m : ℕ) → held_with (held_with held (take n text)) (take m (drop n text)) ≡ held_with held (take (n + m) text)
held_more None text n m = refl
held_more (Some held) text n m = ap Some (append_assoc held (take n text) (take m (drop n text)) ∙ ap (λ t. held ++ t) (sym (take-add n m text)))

pub held_nothing : (held : Option (List ℕ)) (text : List ℕ) → held ≡ held_with held (take 0 text)
held_nothing None text = refl
held_nothing (Some held) text = ap Some (sym (append-nil held))

some_none : {rest : List ℕ} → Some rest ≡ None → ⊥
some_none e = cc

-- what is taken behind other bytes
pub took_more : (a b c : Option (List ℕ)) (xs ys : List ℕ) → Took a b xs → Took b c ys → Took a c (xs ++ ys)
took_more None None c xs ys first next = next
took_more None (Some rest) c xs ys first next = absurd (some_none first)
took_more (Some left) None c xs ys first next = absurd first
took_more (Some left) (Some rest) None xs ys first next = absurd next
took_more (Some left) (Some rest) (Some end) xs ys first next = first ∙ ap (λ t. xs ++ t) next ∙ sym (append_assoc xs ys end)

pub took_nothing : (a : Option (List ℕ)) → Took a a []
took_nothing None = refl
took_nothing (Some left) = refl

pub took_at_most : (a b : Option (List ℕ)) (xs : List ℕ) (most : ℕ) → Took a b xs → length xs ≤ most → TookAtMost most a b
took_at_most None b xs most taken few = tt
took_at_most (Some left) None xs most taken few = tt
took_at_most (Some left) (Some rest) xs most taken few = omega (arith, ap length taken, length-append xs rest)

-- a read at the end leaves what was taken
pub took_end : (a b c : Option (List ℕ)) (bytes more : List ℕ) → Took a b bytes → more ≡ bytes → Took b c [] → Took a c more
took_end a b c bytes more taken same none = subst (λ (xs : List ℕ). Took a c xs) (sym (same ∙ sym (append-nil bytes))) (took_more a b c bytes [] taken none)

-- a read that gave bytes
pub took_piece : (a b c : Option (List ℕ)) (bytes more piece : List ℕ) → Took a b bytes → more ≡ bytes ++ piece → Took b c piece → Took a c more
took_piece a b c bytes more piece taken same next = subst (λ (xs : List ℕ). Took a c xs) (sym same) (took_more a b c bytes piece taken next)

-- bytes that were taken, and at most so many more
pub took_both : (a b c : Option (List ℕ)) (bytes : List ℕ) (room most : ℕ) → Took a b bytes → TookAtMost room b c → length bytes + room ≤ most → TookAtMost most a c
took_both None b c bytes room most taken more few = tt
took_both (Some left) None c bytes room most taken more few = absurd taken
took_both (Some left) (Some rest) None bytes room most taken more few = tt
took_both (Some left) (Some rest) (Some end) bytes room most taken more few = omega (arith, more, ap length taken, length-append bytes rest)

-- more than the limit was left, where more was taken
pub took_above : (a b : Option (List ℕ)) (bytes : List ℕ) (most : ℕ) → Took a b bytes → most < length bytes → IfTold a (λ left. most < length left)
took_above None b bytes most taken more = tt
took_above (Some left) None bytes most taken more = absurd taken
took_above (Some left) (Some rest) bytes most taken more = omega (arith, ap length taken, length-append bytes rest)

-- nothing is taken
pub took_none : (a : Option (List ℕ)) → TookNoMore a a
took_none None = tt
took_none (Some left) = omega arith
