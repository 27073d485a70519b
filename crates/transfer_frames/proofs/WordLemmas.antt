-- The words of a list of bytes, taken from the front one by one.
use Rattle.std.proofs.Common.{◌≡◌, ◌==◌, ℕ, ◌<◌, ◌≤◌, Bool, true, false, List, [], ◌∷◌, ◌++◌, length, drop, map, refl, sym, ap, ◌∙◌, arith, append_assoc}
use Rattle.std.specs.Prelude.{ℤ}
use Rattle.std.specs.List.{list_any}
use Rattle.std.proofs.lemmas.List.{append-nil}
use Rattle.std.proofs.lemmas.Bool.{eq-eqb, ne_eqb}
use Rattle.transfer_frames.specs.Numbers.{word_of, words_of}

words_next : (bytes : List ℕ) → 4 ≤ length bytes → words_of bytes ≡ word_of bytes ∷ words_of (drop 4 bytes)
unfolding word_of
words_next (a ∷ b ∷ c ∷ d ∷ rest) long = refl
words_next [] long = absurd (omega arith)
words_next (a ∷ []) long = absurd (omega arith)
words_next (a ∷ b ∷ []) long = absurd (omega arith)
words_next (a ∷ b ∷ c ∷ []) long = absurd (omega arith)

words_none : (bytes : List ℕ) → length bytes < 4 → words_of bytes ≡ []
words_none [] short = refl
words_none (a ∷ []) short = refl
words_none (a ∷ b ∷ []) short = refl
words_none (a ∷ b ∷ c ∷ []) short = refl
words_none (a ∷ b ∷ c ∷ d ∷ rest) short = absurd (omega arith)

-- one more word is read
pub word_read : (f : ℕ → ℤ) (whole before after : List ℤ) (bytes behind : List ℕ) (one : ℤ) → before ++ map f (words_of bytes) ≡ whole → 4 ≤ length bytes
    → behind ≡ drop 4 bytes → one ≡ f (word_of bytes) → after ≡ before ++ one ∷ [] → after ++ map f (words_of behind) ≡ whole
word_read f whole before after bytes behind one so_far long back value added =
    ap (λ (xs : List ℤ). xs ++ map f (words_of behind)) added
    ∙ append_assoc before (one ∷ []) (map f (words_of behind))
    ∙ ap (λ (x : ℤ). before ++ x ∷ map f (words_of behind)) value
    ∙ ap (λ (xs : List ℕ). before ++ f (word_of bytes) ∷ map f (words_of xs)) back
    ∙ ap (λ (xs : List ℕ). before ++ map f xs) (sym (words_next bytes long))
    ∙ so_far

-- all words are read
pub words_read : (f : ℕ → ℤ) (whole before : List ℤ) (bytes : List ℕ) → before ++ map f (words_of bytes) ≡ whole → length bytes < 4 → before ≡ whole
words_read f whole before bytes so_far short =
    sym (append-nil before) ∙ ap (λ (xs : List ℕ). before ++ map f xs) (sym (words_none bytes short)) ∙ so_far

-- whether one of the words is 0
abbrev pub any_zero : List ℕ → Bool
any_zero bytes = list_any (λ word. word == 0) (words_of bytes)

pub zero_here : (bytes : List ℕ) → 4 ≤ length bytes → word_of bytes ≡ 0 → any_zero bytes ≡ true
zero_here bytes long zero =
    ap (list_any (λ word. word == 0)) (words_next bytes long) ∙ rw (eq-eqb (word_of bytes) 0 zero) refl

pub zero_later : (bytes behind : List ℕ) → 4 ≤ length bytes → (word_of bytes ≡ 0 → ⊥) → behind ≡ drop 4 bytes → any_zero bytes ≡ any_zero behind
zero_later bytes behind long other back =
    ap (list_any (λ word. word == 0)) (words_next bytes long) ∙ rw (ne_eqb (word_of bytes) 0 other) refl ∙ ap any_zero (sym back)

pub zero_nowhere : (bytes : List ℕ) → length bytes < 4 → any_zero bytes ≡ false
zero_nowhere bytes short = ap (list_any (λ word. word == 0)) (words_none bytes short)
