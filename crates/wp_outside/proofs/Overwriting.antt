-- A list after a part of it from one place on was written over.
use Rattle.std.proofs.Common.{◌≡◌, ℕ, ◌+◌, ◌-◌, ◌≤◌, List, [], ◌++◌, length, take, drop, sym, ◌∙◌, ap, arith, append_assoc, length-append, length-drop}
use Rattle.std.proofs.lemmas.List.{append-nil, drop_all, drop_at, drop-drop, length-take-le}
use borrow.Rule.Slice.PartMut.{put_mid}

-- the list is what stood before the place, what was written, and what stood past it
written_over : (xs bytes ys : List ℕ) (used n k : ℕ) → used ≤ length xs → k ≡ length xs - used
    → ys ≡ take n bytes ++ drop n (drop used xs)
    → put_mid used k xs ys ≡ (take used xs ++ take n bytes) ++ drop (used + n) xs
written_over xs bytes ys used n k within size is =
    let past : drop k (drop used xs) ≡ [] = drop_all k (drop used xs) (omega (arith, length-drop used xs)) in
    ap (λ (zs : List ℕ). take used xs ++ (zs ++ drop k (drop used xs))) is
    ∙ ap (λ (zs : List ℕ). take used xs ++ ((take n bytes ++ drop n (drop used xs)) ++ zs)) past
    ∙ ap (λ (zs : List ℕ). take used xs ++ zs) (append-nil (take n bytes ++ drop n (drop used xs)))
    ∙ ap (λ (zs : List ℕ). take used xs ++ (take n bytes ++ zs)) (drop-drop n used xs)
    ∙ sym (append_assoc (take used xs) (take n bytes) (drop (used + n) xs))

-- what stands past what was written is as it was
pub past_written : (xs bytes ys : List ℕ) (used n k : ℕ) → used ≤ length xs → n ≤ length bytes → k ≡ length xs - used
    → ys ≡ take n bytes ++ drop n (drop used xs)
    → drop (used + n) (put_mid used k xs ys) ≡ drop (used + n) xs
past_written xs bytes ys used n k within enough size is =
    ap (drop (used + n)) (written_over xs bytes ys used n k within size is)
    ∙ drop_at (take used xs ++ take n bytes) (drop (used + n) xs) (used + n)
    (omega (arith, length-append (take used xs) (take n bytes), length-take-le used xs within, length-take-le n bytes enough))
