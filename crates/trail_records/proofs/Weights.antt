-- What the weight of a record gains by each thing that is added.
use Rattle.std.proofs.Common.{◌≡◌, ℕ, suc, ◌+◌, ◌*◌, ◌<◌, ◌≤◌, List, [], ◌∷◌, ◌++◌, take, length, Ok, refl, sym, ap, subst, arith, length-append, length-take}
use Rattle.std.proofs.lemmas.List.Sums.{sum_by-append, sum_by_push, sum_by-take-le, sum_by-cons}
use Rattle.std.specs.Prelude.{sum_by}
use Rattle.transfer_frames.specs.declared.frame.Frame.{Frame}
use Rattle.half_model.specs.declared.notes.CopyRecord.{CopyRecord}
use Rattle.pair_model.specs.Lines.{Line}
use Rattle.pair_model.specs.Steps.{on_last, with_written, with_read}
use Rattle.side_model.specs.Books.{TrailRecord, Book, Lined, MOST_WEIGHT, weight, spelled, line_weight, ITEM_WEIGHT, with_rows, no_trail}
use Rattle.wp_outside.specs.declared.kinds.Side.{Side}
use Rattle.trail_records.specs.declared.book.Lengths.{Lengths}
use Rattle.trail_records.specs.Noting.{cut_to, IsWeighed, Weighs}
use Rattle.trail_records.specs.Rows.{new_line, no_lines, roomy}

pub weight_none : (side : Side) → weight (no_trail side) ≡ 0
unfolding weight
weight_none side = refl

pub weight_taken : (message : List ℕ) (trail : TrailRecord) → weight (record trail { taken = trail.taken ++ message ∷ [] }) ≡ weight trail + length message
unfolding weight
weight_taken message trail = omega (arith, sum_by_push length trail.taken message)

pub weight_made : (frames : List Frame) (copies : List CopyRecord) (trail : TrailRecord)
    → weight (record trail { made = trail.made ++ frames; copies = trail.copies ++ copies }) ≡ weight trail + (sum_by spelled frames + ITEM_WEIGHT * length copies)
unfolding weight
weight_made frames copies trail = omega (arith, sum_by-append spelled trail.made frames, length-append trail.copies copies)

-- ---- lines

pub weight_line : (connection : ℕ) (trail : TrailRecord) → weight (record trail { lines = with_rows (trail.lines.rows ++ new_line connection ∷ []) trail.lines }) ≡ weight trail + ITEM_WEIGHT
unfolding weight
weight_line connection trail = omega (arith, sum_by_push line_weight trail.lines.rows (new_line connection), length-append trail.lines.rows (new_line connection ∷ []))

length_last : (change : Line → Line) (rows : List Line) → length (on_last change rows) ≡ length rows
length_last change [] = refl
length_last change (l ∷ []) = refl
length_last change (l ∷ (k ∷ ls)) = ap suc (length_last change (k ∷ ls))

read_weighs : (piece : List ℕ) (rows : List Line) → 0 < length rows → sum_by line_weight (on_last (with_read piece) rows) ≡ sum_by line_weight rows + length piece
read_weighs piece [] h = absurd (omega arith)
read_weighs piece (l ∷ []) h = omega (arith, length-append l.read piece)
read_weighs piece (l ∷ (k ∷ ls)) h =
    omega (arith, read_weighs piece (k ∷ ls) (omega arith), sum_by-cons line_weight l (on_last (with_read piece) (k ∷ ls)), sum_by-cons line_weight l (k ∷ ls))

written_weighs : (bytes : List ℕ) (rows : List Line) → 0 < length rows → sum_by line_weight (on_last (with_written bytes) rows) ≡ sum_by line_weight rows + length bytes
written_weighs bytes [] h = absurd (omega arith)
written_weighs bytes (l ∷ []) h = omega (arith, length-append l.written bytes)
written_weighs bytes (l ∷ (k ∷ ls)) h =
    omega (arith, written_weighs bytes (k ∷ ls) (omega arith), sum_by-cons line_weight l (on_last (with_written bytes) (k ∷ ls)), sum_by-cons line_weight l (k ∷ ls))

pub weight_read : (piece : List ℕ) (trail : TrailRecord) → 0 < length trail.lines.rows → weight (record trail { lines = with_rows (on_last (with_read piece) trail.lines.rows) trail.lines }) ≡ weight trail + length piece
unfolding weight
weight_read piece trail h = omega (arith, read_weighs piece trail.lines.rows h, length_last (with_read piece) trail.lines.rows)

pub weight_written : (bytes : List ℕ) (trail : TrailRecord) → 0 < length trail.lines.rows
    → weight (record trail { lines = record (with_rows (on_last (with_written bytes) trail.lines.rows) trail.lines) { room = 0 } }) ≡ weight trail + length bytes
unfolding weight
weight_written bytes trail h = omega (arith, written_weighs bytes trail.lines.rows h, length_last (with_written bytes) trail.lines.rows)

pub weight_room : (room : ℕ) (trail : TrailRecord) → weight (record trail { lines = record trail.lines { room = room } }) ≡ weight trail
unfolding weight
weight_room room trail = refl

pub weight_counts : (accepted acknowledged given : ℕ) (trail : TrailRecord) → weight (record trail { accepted = accepted; acknowledged = acknowledged; given = given }) ≡ weight trail
unfolding weight
weight_counts accepted acknowledged given trail = refl

-- ---- going back

pub weight_cut : (lengths : Lengths) (book : Book) → weight (cut_to lengths book).trail ≤ weight book.trail
unfolding weight
weight_cut lengths book = omega (arith, sum_by-take-le length book.trail.taken lengths.taken, sum_by-take-le spelled book.trail.made lengths.made, length-take lengths.copies book.trail.copies)

-- ---- the weight that is counted stays exact

pub new_weighed : (side : Side) (taken : List (List ℕ)) (made : List Frame) (copies : List CopyRecord) (lines : Lined) → taken ≡ [] → made ≡ [] → copies ≡ [] → lines ≡ no_lines
    → IsWeighed 0 (record (no_trail side) { taken = taken; made = made; copies = copies; lines = lines })
new_weighed side taken made copies lines t m k l =
    subst (λ (x : List (List ℕ)). IsWeighed 0 (record (no_trail side) { taken = x; made = made; copies = copies; lines = lines })) (sym t)
    (subst (λ (x : List Frame). IsWeighed 0 (record (no_trail side) { made = x; copies = copies; lines = lines })) (sym m)
    (subst (λ (x : List CopyRecord). IsWeighed 0 (record (no_trail side) { copies = x; lines = lines })) (sym k)
    (subst (λ (x : Lined). IsWeighed 0 (record (no_trail side) { lines = x })) (sym l) (record { exact = sym (weight_none side); light = omega (arith, weight_none side) }))))

pub taken_weighed : (message : List ℕ) (size counted total : ℕ) (before : TrailRecord) (taken : List (List ℕ)) → taken ≡ before.taken ++ message ∷ [] → before.lines.room ≡ 0 → IsWeighed counted before
    → Weighs (Ok total) (counted + size) → size ≡ length message → IsWeighed total (record before { taken = taken })
taken_weighed message size counted total before taken e r w h k =
    subst (λ (x : List (List ℕ)). IsWeighed total (record before { taken = x })) (sym e)
    (record { exact = omega (arith, weight_taken message before, w.exact, h.0, k); light = omega (arith, weight_taken message before, w.exact, h.1, k, r) })

pub made_weighed : (frames : List Frame) (copies : List CopyRecord) (counted size part count total : ℕ) (before : TrailRecord) (made : List Frame) (copied : List CopyRecord) → made ≡ before.made ++ frames → copied ≡ before.copies ++ copies
    → before.lines.room ≡ 0 → IsWeighed counted before → Weighs (Ok part) (counted + size) → size ≡ sum_by spelled frames → Weighs (Ok total) (part + ITEM_WEIGHT * count) → count ≡ length copies
    → IsWeighed total (record before { made = made; copies = copied })
made_weighed frames copies counted size part count total before made copied e d r w h s k n =
    subst (λ (x : List Frame). IsWeighed total (record before { made = x; copies = copied })) (sym e)
    (subst (λ (x : List CopyRecord). IsWeighed total (record before { made = before.made ++ frames; copies = x })) (sym d)
    (record { exact = omega (arith, weight_made frames copies before, w.exact, h.0, s, k.0, n); light = omega (arith, weight_made frames copies before, w.exact, h.0, s, k.1, n, r) }))

pub line_weighed : (connection counted total : ℕ) (before : TrailRecord) (lines : Lined) → lines ≡ with_rows (before.lines.rows ++ new_line connection ∷ []) before.lines → before.lines.room ≡ 0 → IsWeighed counted before
    → Weighs (Ok total) (counted + ITEM_WEIGHT * 1) → IsWeighed total (record before { lines = lines })
line_weighed connection counted total before lines e r w h =
    subst (λ (ls : Lined). IsWeighed total (record before { lines = ls })) (sym e)
    (record { exact = omega (arith, weight_line connection before, w.exact, h.0); light = omega (arith, weight_line connection before, w.exact, h.1, r) })

pub read_weighed : (piece : List ℕ) (counted total : ℕ) (before : TrailRecord) (lines : Lined) → lines ≡ with_rows (on_last (with_read piece) before.lines.rows) before.lines → 0 < length before.lines.rows → before.lines.room ≡ 0
    → IsWeighed counted before → Weighs (Ok total) (counted + length piece) → IsWeighed total (record before { lines = lines })
read_weighed piece counted total before lines e some r w h =
    subst (λ (ls : Lined). IsWeighed total (record before { lines = ls })) (sym e)
    (record { exact = omega (arith, weight_read piece before some, w.exact, h.0); light = omega (arith, weight_read piece before some, w.exact, h.1, r) })

pub written_weighed : (bytes : List ℕ) (counted : ℕ) (before : TrailRecord) (lines : Lined) → lines ≡ roomy 0 (with_rows (on_last (with_written bytes) before.lines.rows) before.lines) → 0 < length before.lines.rows
    → length bytes ≤ before.lines.room → IsWeighed counted before → IsWeighed (counted + length bytes) (record before { lines = lines })
written_weighed bytes counted before lines e some l w =
    subst (λ (ls : Lined). IsWeighed (counted + length bytes) (record before { lines = ls })) (sym e)
    (record { exact = omega (arith, weight_written bytes before some, w.exact); light = omega (arith, weight_written bytes before some, w.light, l) })

pub room_weighed : (room counted : ℕ) (before : TrailRecord) (lines : Lined) → lines ≡ roomy room before.lines → IsWeighed counted before → counted + room ≤ MOST_WEIGHT → IsWeighed counted (record before { lines = lines })
room_weighed room counted before lines e w h =
    subst (λ (ls : Lined). IsWeighed counted (record before { lines = ls })) (sym e)
    (record { exact = omega (arith, weight_room room before, w.exact); light = omega (arith, weight_room room before, w.exact, h) })

pub counts_weighed : (accepted acknowledged given counted : ℕ) (before : TrailRecord) → IsWeighed counted before → IsWeighed counted (record before { accepted = accepted; acknowledged = acknowledged; given = given })
counts_weighed accepted acknowledged given counted before w =
    record { exact = omega (arith, weight_counts accepted acknowledged given before, w.exact); light = omega (arith, weight_counts accepted acknowledged given before, w.light) }

pub cut_weighed : (lengths : Lengths) (counted : ℕ) (before : Book) (taken : List (List ℕ)) (made : List Frame) (copies : List CopyRecord) → taken ≡ take lengths.taken before.trail.taken → made ≡ take lengths.made before.trail.made
    → copies ≡ take lengths.copies before.trail.copies → before.trail.lines.room ≡ 0 → IsWeighed counted before.trail → weight (cut_to lengths before).trail ≡ lengths.weight
    → IsWeighed lengths.weight (record before.trail { taken = taken; made = made; copies = copies })
cut_weighed lengths counted before taken made copies t m k r w h =
    subst (λ (x : List (List ℕ)). IsWeighed lengths.weight (record before.trail { taken = x; made = made; copies = copies })) (sym t)
    (subst (λ (x : List Frame). IsWeighed lengths.weight (record before.trail { taken = take lengths.taken before.trail.taken; made = x; copies = copies })) (sym m)
    (subst (λ (x : List CopyRecord). IsWeighed lengths.weight (record (cut_to lengths before).trail { copies = x })) (sym k)
    (record { exact = sym h; light = omega (arith, weight_cut lengths before, w.light, r) })))
