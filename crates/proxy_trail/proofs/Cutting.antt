-- To cut the records back to the lengths that their lists had gives the records of then.
use Rattle.std.proofs.Common.{◌≡◌, ℕ, ◌+◌, ◌≤◌, List, [], ◌∷◌, ◌++◌, take, length, refl, sym, ap, subst, ◌∙◌, arith, length-append}
use Rattle.std.proofs.lemmas.List.{take-append-le}
use Rattle.std.proofs.Math.Seq.{take-length}
use Rattle.transfer_frames.specs.declared.frame.Frame.{Frame}
use Rattle.wl_tables.specs.declared.way.Way.{Way}
use Rattle.half_model.specs.declared.notes.CopyRecord.{CopyRecord}
use Rattle.half_model.specs.declared.notes.Noted.{Noted}
use Rattle.half_model.specs.declared.notes.Noted.TheVariants.{Taken, Received, Group}
use Rattle.side_model.specs.Books.{Book, weight}
use Rattle.trail_records.specs.declared.book.Lengths.{Lengths}
use Rattle.trail_records.specs.Noting.{noted, noted_all, noted_trail, noted_order, AreLengths, cut_to}

-- the lists are as long at least
record Covers (lengths : Lengths) (book : Book) : Type 0 where
  taken : lengths.taken ≤ length book.trail.taken
  made : lengths.made ≤ length book.trail.made
  copies : lengths.copies ≤ length book.trail.copies
  order : lengths.order ≤ length book.order

take_front : {X : Type 0} (n : ℕ) (xs ys : List X) → n ≤ length xs → take n (xs ++ ys) ≡ take n xs
take_front n xs ys h = take-append-le n xs ys h

front_stays : {X : Type 0} (n : ℕ) (xs ys : List X) → n ≤ length xs → n ≤ length (xs ++ ys)
front_stays n xs ys h = omega (arith, length-append xs ys, h)

covers_noted : (note : Noted) (lengths : Lengths) (book : Book) → Covers lengths book → Covers lengths (noted note book)
covers_noted (Taken message) lengths book h =
    record { taken = front_stays lengths.taken book.trail.taken _ h.taken; made = h.made; copies = h.copies; order = front_stays lengths.order book.order _ h.order }
covers_noted (Received messages) lengths book h = record { taken = h.taken; made = h.made; copies = h.copies; order = front_stays lengths.order book.order _ h.order }
covers_noted (Group frames copies) lengths book h =
    record { taken = h.taken; made = front_stays lengths.made book.trail.made _ h.made; copies = front_stays lengths.copies book.trail.copies _ h.copies; order = h.order }

cut_noted : (note : Noted) (lengths : Lengths) (book : Book) → Covers lengths book → cut_to lengths (noted note book) ≡ cut_to lengths book
cut_noted (Taken message) lengths book h =
    ap (λ (taken : List (List ℕ)). record (cut_to lengths (noted (Taken message) book)) { trail = record (cut_to lengths book).trail { taken = taken } }) (take_front lengths.taken book.trail.taken _ h.taken)
    ∙ ap (λ (order : List Way). record (cut_to lengths book) { order = order }) (take_front lengths.order book.order _ h.order)
cut_noted (Received messages) lengths book h = ap (λ (order : List Way). record (cut_to lengths book) { order = order }) (take_front lengths.order book.order _ h.order)
cut_noted (Group frames copies) lengths book h =
    ap (λ (made : List Frame). record (cut_to lengths (noted (Group frames copies) book)) { trail = record (cut_to lengths (noted (Group frames copies) book)).trail { made = made } }) (take_front lengths.made book.trail.made _ h.made)
    ∙ ap (λ (copied : List CopyRecord). record (cut_to lengths book) { trail = record (cut_to lengths book).trail { copies = copied } }) (take_front lengths.copies book.trail.copies _ h.copies)

cut_all : (notes : List Noted) (lengths : Lengths) (book : Book) → Covers lengths book → cut_to lengths (noted_all notes book) ≡ cut_to lengths book
cut_all [] lengths book h = refl
cut_all (n ∷ ns) lengths book h = cut_all ns lengths (noted n book) (covers_noted n lengths book h) ∙ cut_noted n lengths book h

cut_none : (lengths : Lengths) (book : Book) → AreLengths lengths book → cut_to lengths book ≡ book
cut_none lengths book h =
    ap (λ (n : ℕ). record (cut_to lengths book) { trail = record (cut_to lengths book).trail { taken = take n book.trail.taken } }) h.taken
    ∙ ap (λ (xs : List (List ℕ)). record (cut_to lengths book) { trail = record (cut_to lengths book).trail { taken = xs } }) (take-length book.trail.taken)
    ∙ ap (λ (n : ℕ). record { trail = record book.trail { made = take n book.trail.made; copies = take lengths.copies book.trail.copies }; order = take lengths.order book.order }) h.made
    ∙ ap (λ (xs : List Frame). record { trail = record book.trail { made = xs; copies = take lengths.copies book.trail.copies }; order = take lengths.order book.order }) (take-length book.trail.made)
    ∙ ap (λ (n : ℕ). record { trail = record book.trail { copies = take n book.trail.copies }; order = take lengths.order book.order }) h.copies
    ∙ ap (λ (xs : List CopyRecord). record { trail = record book.trail { copies = xs }; order = take lengths.order book.order }) (take-length book.trail.copies)
    ∙ ap (λ (n : ℕ). record book { order = take n book.order }) h.order ∙ ap (λ (xs : List Way). record book { order = xs }) (take-length book.order)

-- whatever was noted since
pub cut_again : (notes : List Noted) (lengths : Lengths) (book : Book) → AreLengths lengths book → cut_to lengths (noted_all notes book) ≡ book
cut_again notes lengths book h =
    cut_all notes lengths book (record { taken = omega (arith, h.taken); made = omega (arith, h.made); copies = omega (arith, h.copies); order = omega (arith, h.order) }) ∙ cut_none lengths book h

pub cut_weight : (notes : List Noted) (lengths : Lengths) (book after : Book) → AreLengths lengths book → after ≡ noted_all notes book → weight (cut_to lengths after).trail ≡ lengths.weight
cut_weight notes lengths book after h e = ap (λ (b : Book). weight (cut_to lengths b).trail) e ∙ ap (λ (b : Book). weight b.trail) (cut_again notes lengths book h) ∙ sym h.weighs

-- no note lends room
room_noted : (note : Noted) (book : Book) → (noted note book).trail.lines.room ≡ book.trail.lines.room
room_noted (Taken message) book = refl
room_noted (Received messages) book = refl
room_noted (Group frames copies) book = refl

pub room_all : (notes : List Noted) (book : Book) → (noted_all notes book).trail.lines.room ≡ book.trail.lines.room
room_all [] book = refl
room_all (n ∷ ns) book = room_all ns (noted n book) ∙ room_noted n book
