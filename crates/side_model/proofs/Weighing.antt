-- The weight of a record grows by what an event costs, and what is noted are the notes of its marks.
use Rattle.std.proofs.Common.{◌≡◌, ℕ, ◌+◌, ◌*◌, List, [], ◌∷◌, ◌++◌, Option, Some, None, take, length, refl, sym, ap, subst, ◌∙◌, arith, length-append, length-take}
use Rattle.std.proofs.lemmas.List.Sums.{sum_by-append, sum_by_push}
use Rattle.std.specs.Prelude.{sum_by}
use Rattle.transfer_frames.specs.declared.frame.Frame.{Frame}
use Rattle.half_model.specs.Log as marks
use Rattle.half_model.specs.Log.{Mark}
use Rattle.half_model.specs.Story.{accepted_in}
use Rattle.pair_model.specs.Lines.{Line, SideRecord}
use Rattle.pair_model.specs.Steps.{Here, on_last, with_written, with_read}
use Rattle.pair_model.proofs.LastLine.{on_last-push}
use Rattle.side_model.specs.Books.{TrailRecord, Lined, marked_trail, rows_after, given_after, with_rows, weight, spelled, line_weight, mark_cost, line_cost, ITEM_WEIGHT}
use Rattle.side_model.specs.Events.{Event, Fed, Handed, Lent, Up, Down, Came, Went, Gave, Asks, Told, Heard, Took, Grouped, Ended, Chose}
use Rattle.side_model.specs.Follows.{LinkFollows}
use Rattle.side_model.specs.FollowLaws.{WeightGrows}
use Rattle.side_model.specs.Marks.{mark_of}
use Rattle.side_model.specs.Places.{places_in, side_of}

-- what the lines weigh
unfoldable rows_weight : List Line → ℕ
rows_weight rows = sum_by line_weight rows + ITEM_WEIGHT * length rows

-- ---- the lines

last_read : (piece : List ℕ) (earlier : List Line) (line : Line) → rows_weight (on_last (with_read piece) (earlier ++ line ∷ [])) ≡ rows_weight (earlier ++ line ∷ []) + length piece
unfolding rows_weight
last_read piece earlier line =
    let changed : on_last (with_read piece) (earlier ++ line ∷ []) ≡ earlier ++ with_read piece line ∷ [] = on_last-push (with_read piece) earlier line in
    let one : sum_by line_weight (earlier ++ with_read piece line ∷ []) ≡ sum_by line_weight earlier + line_weight (with_read piece line) = sum_by_push line_weight earlier (with_read piece line) in
    let two : sum_by line_weight (earlier ++ line ∷ []) ≡ sum_by line_weight earlier + line_weight line = sum_by_push line_weight earlier line in
    omega (arith, ap (sum_by line_weight) changed, ap length changed, one, two, length-append line.read piece, length-append earlier (with_read piece line ∷ []), length-append earlier (line ∷ []))

last_written : (bytes : List ℕ) (earlier : List Line) (line : Line) → rows_weight (on_last (with_written bytes) (earlier ++ line ∷ [])) ≡ rows_weight (earlier ++ line ∷ []) + length bytes
unfolding rows_weight
last_written bytes earlier line =
    let changed : on_last (with_written bytes) (earlier ++ line ∷ []) ≡ earlier ++ with_written bytes line ∷ [] = on_last-push (with_written bytes) earlier line in
    let one : sum_by line_weight (earlier ++ with_written bytes line ∷ []) ≡ sum_by line_weight earlier + line_weight (with_written bytes line) = sum_by_push line_weight earlier (with_written bytes line) in
    let two : sum_by line_weight (earlier ++ line ∷ []) ≡ sum_by line_weight earlier + line_weight line = sum_by_push line_weight earlier line in
    omega (arith, ap (sum_by line_weight) changed, ap length changed, one, two, length-append line.written bytes, length-append earlier (with_written bytes line ∷ []), length-append earlier (line ∷ []))

rows_grow : (event : Event) (token : List ℕ) (side : SideRecord) (accepted : List Frame) (here : Option Here) → LinkFollows token side accepted here
    → rows_weight (rows_after event here side.lines) ≡ rows_weight side.lines + line_cost event here
unfolding rows_weight
rows_grow (Up connection) token side accepted here h =
    let line : Line = record { connection = connection; written = []; read = [] } in
    omega (arith, sum_by_push line_weight side.lines line, length-append side.lines (line ∷ []))
rows_grow (Came piece) token side accepted None h = omega arith
rows_grow (Came piece) token side accepted (Some here) h =
    subst (λ (rows : List Line). rows_weight (on_last (with_read piece) rows) ≡ rows_weight rows + length piece) (sym h.stands.lines) (last_read piece h.stands.earlier h.stands.line)
rows_grow (Went n) token side accepted None h = omega arith
rows_grow (Went n) token side accepted (Some here) h =
    subst (λ (rows : List Line). rows_weight (on_last (with_written (take n here.front)) rows) ≡ rows_weight rows + length (take n here.front)) (sym h.stands.lines) (last_written (take n here.front) h.stands.earlier h.stands.line)
    ∙ ap (λ m. rows_weight side.lines + m) (length-take n here.front)
rows_grow (Fed item) token side accepted here h = omega arith
rows_grow (Handed done) token side accepted here h = omega arith
rows_grow Lent token side accepted here h = omega arith
rows_grow Down token side accepted here h = omega arith
rows_grow Gave token side accepted here h = omega arith
rows_grow (Asks reason) token side accepted here h = omega arith
rows_grow Told token side accepted here h = omega arith
rows_grow (Heard frame) token side accepted here h = omega arith
rows_grow Took token side accepted here h = omega arith
rows_grow Grouped token side accepted here h = omega arith
rows_grow Ended token side accepted here h = omega arith
rows_grow Chose token side accepted here h = omega arith

-- ---- the marks

-- what else weighs
unfoldable marks_weight : TrailRecord → ℕ
marks_weight trail = sum_by length trail.taken + sum_by spelled trail.made + ITEM_WEIGHT * length trail.copies

marks_grow : (mark : Option Mark) (trail : TrailRecord) → (marks_weight (marked_trail mark trail) ≡ marks_weight trail + mark_cost mark) × ((marked_trail mark trail).lines ≡ trail.lines)
unfolding marks_weight
marks_grow None trail = (omega arith, refl)
marks_grow (Some (marks.Taken message handle segments)) trail = (omega (arith, sum_by_push length trail.taken message), refl)
marks_grow (Some (marks.Heard frame)) trail = (omega arith, refl)
marks_grow (Some (marks.Grouped frames copies)) trail = (omega (arith, sum_by-append spelled trail.made frames, length-append trail.copies copies), refl)
marks_grow (Some (marks.Dropped rid)) trail = (omega arith, refl)

both_weigh : (trail : TrailRecord) → weight trail ≡ marks_weight trail + rows_weight trail.lines.rows
unfolding weight rows_weight marks_weight
both_weigh trail = omega arith

grown_weighs : (marked : TrailRecord) (lines : Lined) (given : ℕ) → weight (record marked { lines = lines; given = given }) ≡ marks_weight marked + rows_weight lines.rows
unfolding weight rows_weight marks_weight
grown_weighs marked lines given = omega arith

pub weight_grows : WeightGrows
weight_grows event s book f =
    let marked : TrailRecord = marked_trail (mark_of event s) book.trail in
    let rows : rows_weight (rows_after event s.live.here book.trail.lines.rows) ≡ rows_weight book.trail.lines.rows + line_cost event s.live.here =
    rows_grow event s.token (side_of book.trail (places_in f.story) None) (accepted_in f.story) s.live.here f.link in
    omega (arith, grown_weighs marked (with_rows (rows_after event s.live.here book.trail.lines.rows) book.trail.lines) (given_after event s.live book.trail.given), (marks_grow (mark_of event s) book.trail).0, rows, both_weigh book.trail)
