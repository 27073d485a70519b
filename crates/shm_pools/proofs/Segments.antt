-- What holds of a file once one pen has changed, and once there is one pen more.
use Rattle.std.proofs.Common.{◌≡◌, ℕ, zero, suc, ◌+◌, ◌-◌, ◌*◌, ◌/◌, ◌<◌, ℤ, List, [], ◌∷◌, ◌++◌, length, set, sym, refl, ap, ◌∙◌, subst, arith, length-append, length-set}
use Rattle.std.specs.Prelude.{OnOk, OnErr, Result, Ok, Err, sum}
use Rattle.std.proofs.lemmas.List.{get_or-set_same, get_or-set_other, get_or_append_left, get_or_push}
use Rattle.std.proofs.lemmas.List.Sums.{sum_by-cons}
use native.Mathlib.Decide.{ℕ_discrete}
use Rattle.pool_words.specs.Views.{PenState, ReceiptState, wrote, took}
use Rattle.shm_pools.specs.Files.{FileState, IsSize, IsWhole, pen_sizes, pen_at, pool_number, no_pen}

-- how many words the segments have together
abbrev words_in : List PenState → ℕ
words_in ps = sum (pen_sizes ps)

words_in-cons : (p : PenState) (ps : List PenState) → words_in (p ∷ ps) ≡ p.words + words_in ps
words_in-cons p ps = sum_by-cons (λ (n : ℕ). n) p.words (pen_sizes ps)

words_in-push : (ps : List PenState) (p : PenState) → words_in (ps ++ p ∷ []) ≡ words_in ps + p.words
words_in-push [] p = refl
words_in-push (x ∷ ps) p = omega (arith, words_in-cons x (ps ++ p ∷ []), words_in-cons x ps, words_in-push ps p)

words_in-set : (ps : List PenState) (k : ℕ) (p : PenState) → k < length ps → p.words ≡ (pen_at ps k).words
    → words_in (set ps k p) ≡ words_in ps
words_in-set [] k p lt same = absurd (omega arith)
words_in-set (x ∷ ps) zero p lt same = omega (arith, words_in-cons p ps, words_in-cons x ps, same)
words_in-set (x ∷ ps) (suc k) p lt same =
    omega (arith, words_in-cons x (set ps k p), words_in-cons x ps, words_in-set ps k p (omega arith) same)

-- the file with this number and these pens
abbrev file : ℤ → List PenState → FileState
file number ps = record { number = number; segments = ps }

pub whole_set : (number : ℤ) (ps : List PenState) (k : ℕ) (p : PenState) → IsWhole (file number ps) → k < length ps
    → p.words ≡ (pen_at ps k).words → p.number ≡ (pen_at ps k).number
    → (words_in (set ps k p) ≡ words_in ps) × IsWhole (file number (set ps k p))
whole_set number ps k p whole lt words named =
    let same = words_in-set ps k p lt words in (
      same,
      record {
        sized = subst (λ (n : ℕ). IsSize (8 * n)) (sym same) whole.sized;
        parted = λ j below. parted j (omega (arith, length-set ps k p, below)) (ℕ_discrete j k);
        few = omega (arith, length-set ps k p, whole.few);
        numbered = λ j below. numbered j (omega (arith, length-set ps k p, below)) (ℕ_discrete j k);
      },
    )
  where
    parted : (j : ℕ) → j < length ps → Dec (j ≡ k) → IsSize (8 * (pen_at (set ps k p) j).words)
    parted j below (yes same) =
        subst (λ (n : ℕ). IsSize (8 * n))
        (sym (ap (λ (n : ℕ). (pen_at (set ps k p) n).words) same ∙ ap (λ (q : PenState). q.words) (get_or-set_same ps k p no_pen lt) ∙ words))
        (whole.parted k lt)
    parted j below (no other) =
        subst (λ (n : ℕ). IsSize (8 * n)) (sym (ap (λ (q : PenState). q.words) (get_or-set_other ps k j p no_pen other))) (whole.parted j below)

    numbered : (j : ℕ) → j < length ps → Dec (j ≡ k) → (pen_at (set ps k p) j).number ≡ pool_number number j
    numbered j below (yes same) =
        subst (λ (n : ℕ). (pen_at (set ps k p) n).number ≡ pool_number number n) (sym same)
        (ap (λ (q : PenState). q.number) (get_or-set_same ps k p no_pen lt) ∙ named ∙ whole.numbered k lt)
    numbered j below (no other) = ap (λ (q : PenState). q.number) (get_or-set_other ps k j p no_pen other) ∙ whole.numbered j below

pub whole_push : (number : ℤ) (old bytes : ℕ) (ps : List PenState) (p : PenState) → old ≡ 8 * words_in ps → IsWhole (file number ps)
    → IsSize bytes → length ps < 64 → old < bytes → p.words ≡ (bytes - old) / 8 → p.number ≡ pool_number number (length ps)
    → (bytes ≡ 8 * words_in (ps ++ p ∷ [])) × IsWhole (file number (ps ++ p ∷ []))
whole_push number old bytes ps p counted whole size few more words named =
    let push = words_in-push ps p in
    let filled : bytes ≡ 8 * words_in (ps ++ p ∷ []) = omega (arith, push, counted, words, size, whole.sized, more) in (
      filled,
      record {
        sized = subst IsSize filled size;
        parted = λ j below. parted j (omega (arith, length-append ps (p ∷ []), below)) (ℕ_discrete j (length ps));
        few = omega (arith, length-append ps (p ∷ []));
        numbered = λ j below. numbered j below (ℕ_discrete j (length ps));
      },
    )
  where
    more_words : IsSize (8 * p.words)
    more_words = (omega (arith, words, size, whole.sized, counted, more), omega (arith, words, size, whole.sized, counted, more), omega (arith, words, size, whole.sized, counted, more))

    last : (pen_at (ps ++ p ∷ []) (length ps)) ≡ p
    last = get_or_push ps p no_pen (length ps) refl

    parted : (j : ℕ) → j < length ps + 1 → Dec (j ≡ length ps) → IsSize (8 * (pen_at (ps ++ p ∷ []) j).words)
    parted j below (yes same) =
        subst (λ (n : ℕ). IsSize (8 * n)) (sym (ap (λ (n : ℕ). (pen_at (ps ++ p ∷ []) n).words) same ∙ ap (λ (q : PenState). q.words) last)) more_words
    parted j below (no other) =
        let inside : j < length ps = omega (arith, other, below) in
        subst (λ (n : ℕ). IsSize (8 * n)) (sym (ap (λ (q : PenState). q.words) (get_or_append_left ps (p ∷ []) no_pen j inside))) (whole.parted j inside)

    numbered : (j : ℕ) → j < length (ps ++ p ∷ []) → Dec (j ≡ length ps) → (pen_at (ps ++ p ∷ []) j).number ≡ pool_number number j
    numbered j below (yes same) =
        subst (λ (n : ℕ). (pen_at (ps ++ p ∷ []) n).number ≡ pool_number number n) (sym same) (ap (λ (q : PenState). q.number) last ∙ named)
    numbered j below (no other) =
        let inside : j < length ps = omega (arith, length-append ps (p ∷ []), below, other) in
        ap (λ (q : PenState). q.number) (get_or_append_left ps (p ∷ []) no_pen j inside) ∙ whole.numbered j inside

-- a pen that wrote or was refused has its number and its words
pub after_write : {E : Type 0} (r : Result (Unit {0}) E) (p q : PenState) (i v : ℕ)
    → OnOk r (q ≡ wrote p i v) → OnErr r (q ≡ p) → (q.words ≡ p.words) × (q.number ≡ p.number)
after_write (Ok _) p q i v ok err = (ap (λ (x : PenState). x.words) ok, ap (λ (x : PenState). x.number) ok)
after_write (Err _) p q i v ok err = (ap (λ (x : PenState). x.words) err, ap (λ (x : PenState). x.number) err)

pub after_settle : {E : Type 0} (r : Result (Unit {0}) E) (p q : PenState) (t : ReceiptState)
    → OnOk r (q ≡ took p t) → OnErr r (q ≡ p) → (q.words ≡ p.words) × (q.number ≡ p.number)
after_settle (Ok _) p q t ok err = (ap (λ (x : PenState). x.words) ok, ap (λ (x : PenState). x.number) ok)
after_settle (Err _) p q t ok err = (ap (λ (x : PenState). x.words) err, ap (λ (x : PenState). x.number) err)
