-- Copies and receipts as two lists that end together.
use Rattle.std.proofs.Common.{◌≡◌, ℕ, suc, ◌+◌, ◌-◌, ◌≤◌, List, [], ◌∷◌, ◌++◌, take, drop, length, refl, sym, ap, subst, ◌∙◌, arith, length-append, length-drop, append_assoc}
use Rattle.std.proofs.lemmas.List.{take-append-drop, append-nil}
use Rattle.half_model.specs.declared.items.PeerOut.{PeerOut}
use Rattle.half_model.specs.declared.notes.CopyRecord.{CopyRecord}
use Rattle.side_model.specs.Follows.{IsReceiptOf, AreReceipts}

-- behind the first copies stand as many as there are receipts
pub record Ends (start copies : List CopyRecord) (receipts : List PeerOut) : Type 0 where
  pub left : List CopyRecord
  pub row : copies ≡ start ++ left
  pub count : length left ≡ length receipts

abbrev pub before_last : List CopyRecord → List PeerOut → List CopyRecord
before_last copies receipts = take (length copies - length receipts) copies

take_start : (start left : List CopyRecord) (n : ℕ) → n ≡ length start → take n (start ++ left) ≡ start
take_start start left n e = ap (λ (k : ℕ). take k (start ++ left)) e ∙ go start
  where
    go : (xs : List CopyRecord) → take (length xs) (xs ++ left) ≡ xs
    go [] = refl
    go (x ∷ xs) = ap (λ (them : List CopyRecord). x ∷ them) (go xs)

pub ends_are : (start copies : List CopyRecord) (receipts : List PeerOut) → Ends start copies receipts → before_last copies receipts ≡ start
ends_are start copies receipts h =
    let total : length copies ≡ length start + length h.left = ap length h.row ∙ length-append start h.left in
    let n : length copies - length receipts ≡ length start = omega (arith, total, h.count) in
    ap (λ (them : List CopyRecord). take (length copies - length receipts) them) h.row ∙ take_start start h.left (length copies - length receipts) n

pub ends_at : (copies : List CopyRecord) (receipts : List PeerOut) → length receipts ≤ length copies → Ends (before_last copies receipts) copies receipts
ends_at copies receipts l =
    let n : ℕ = length copies - length receipts in
    let dropped : length (drop n copies) ≡ length copies - n = length-drop n copies in
    record { left = drop n copies; row = sym (take-append-drop n copies); count = omega (arith, dropped, l) }

-- as many more of both
pub ends_more : (start copies more : List CopyRecord) (receipts others : List PeerOut) → Ends start copies receipts → length more ≡ length others
    → Ends start (copies ++ more) (receipts ++ others)
ends_more start copies more receipts others h e = record {
  left = h.left ++ more;
  row = ap (λ (them : List CopyRecord). them ++ more) h.row ∙ append_assoc start h.left more;
  count = omega (arith, length-append h.left more, length-append receipts others, h.count, e);
}

pub ends_none : (start copies : List CopyRecord) (receipts : List PeerOut) → Ends start copies receipts → Ends start (copies ++ []) receipts
ends_none start copies receipts h = subst (λ (them : List CopyRecord). Ends start them receipts) (sym (append-nil copies)) h

-- ---- receipts of copies

pub are_as_many : (copies : List CopyRecord) (items : List PeerOut) → AreReceipts copies items → length copies ≡ length items
are_as_many [] [] h = refl
are_as_many [] (item ∷ items) h = absurd h
are_as_many (copy ∷ copies) [] h = absurd h
are_as_many (copy ∷ copies) (item ∷ items) h = ap suc (are_as_many copies items h.1)

-- the copy of the receipt that stands behind others
pub record CopyAt (copies : List CopyRecord) (item : PeerOut) (items : List PeerOut) : Type 0 where
  pub before : List CopyRecord
  pub copy : CopyRecord
  pub after : List CopyRecord
  pub row : copies ≡ before ++ copy ∷ after
  pub is : IsReceiptOf copy item
  pub count : length after ≡ length items

pub copy_at : (gone : List PeerOut) (copies : List CopyRecord) (item : PeerOut) (items : List PeerOut) → AreReceipts copies (gone ++ item ∷ items) → CopyAt copies item items
copy_at [] [] item items h = absurd h
copy_at [] (copy ∷ copies) item items h = record { before = []; copy = copy; after = copies; row = refl; is = h.0; count = are_as_many copies items h.1 }
copy_at (one ∷ gone) [] item items h = absurd h
copy_at (one ∷ gone) (first ∷ copies) item items h =
    let it : CopyAt copies item items = copy_at gone copies item items h.1 in
    record { before = first ∷ it.before; copy = it.copy; after = it.after; row = ap (λ (them : List CopyRecord). first ∷ them) it.row; is = it.is; count = it.count }
