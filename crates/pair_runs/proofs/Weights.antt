-- What a change adds to the weight of the records, and takes from what is left.
use Rattle.std.proofs.Common.{◌≡◌, ◌≢◌, ℕ, ◌+◌, ◌*◌, ◌<◌, ◌≤◌, List, [], ◌∷◌, ◌++◌, Bool, false, length, refl, sym, ap, ◌∙◌, arith, length-append, inl, inr, ◌⊎◌}
use Rattle.std.proofs.lemmas.List.{append-nil}
use Rattle.std.proofs.lemmas.List.Sums.{sum_by-append, sum_by_push, sum_by-cons}
use Rattle.std.specs.Prelude.{sum_by}
use Rattle.std.specs.List.{AllByRecursion}
use Rattle.transfer_frames.specs.declared.frame.Frame.{Frame}
use Rattle.pair_model.proofs.Rows.{spelling_long}
use Rattle.wl_wire.specs.Wire.{IsMessage}
use Rattle.half_model.specs.declared.notes.CopyRecord.{CopyRecord}
use Rattle.pair_model.specs.Lines.{Line}
use Rattle.pair_model.specs.Steps.{on_last, with_written, with_read}
use Rattle.side_model.specs.Books.{TrailRecord, Lined, MOST_WEIGHT, weight, spelled, line_weight, ITEM_WEIGHT}
use Rattle.pair_runs.specs.Linking.{new_line, with_line, written, read}
use Rattle.pair_runs.specs.Measure.{copies_left, side_left}
use Rattle.pair_runs.specs.Sides.{Inside, SideState, rows_of, on_rows}
use Rattle.pair_runs.specs.Working.{Awaits, Grows, Silent, Works}

-- ---- messages and frames

messages_weigh : (took : List (List ℕ)) → AllByRecursion IsMessage took → length took * 8 ≤ sum_by length took
messages_weigh [] h = omega arith
messages_weigh (message ∷ took) h = omega (arith, sum_by-cons length message took, messages_weigh took h.1, h.0.has_header)

-- ---- what calls add

-- what a call makes, each frame and each copy
pub record More (took : List (List ℕ)) (a b : TrailRecord) : Type 0 where
  pub frames : List Frame
  pub copies : List CopyRecord
  pub made : a.made ++ frames ≡ b.made
  pub copied : a.copies ++ copies ≡ b.copies
  pub weighs : weight b ≡ weight a + sum_by length took + sum_by spelled frames + ITEM_WEIGHT * length copies

pub grows_more : (took : List (List ℕ)) (a b : TrailRecord) → Grows took a b → More took a b
unfolding weight
grows_more took a b g =
    let rows : List Line = a.lines.rows in
    let same : b.lines.rows ≡ rows = ap (λ (lines : Lined). lines.rows) g.lines in
    let taken : sum_by length b.taken ≡ sum_by length a.taken + sum_by length took = ap (sum_by length) g.taken ∙ sum_by-append length a.taken took in
    let made : sum_by spelled b.made ≡ sum_by spelled a.made + sum_by spelled g.made.rest = sym (ap (sum_by spelled) g.made.is) ∙ sum_by-append spelled a.made g.made.rest in
    let copies : length b.copies ≡ length a.copies + length g.copies.rest = sym (ap length g.copies.is) ∙ length-append a.copies g.copies.rest in
    record {
      frames = g.made.rest;
      copies = g.copies.rest;
      made = g.made.is;
      copied = g.copies.is;
      weighs = omega (arith, taken, made, copies, ap (sum_by line_weight) same, ap length same);
    }

-- records grow
pub works_weigh : (hears : Bool) (a b : SideState) (w : Works hears a b) → weight a.book.trail + length w.took * 8 ≤ weight b.book.trail
works_weigh hears a b w = omega (arith, (grows_more w.took a.book.trail b.book.trail w.trail).weighs, messages_weigh w.took w.inside.messages)

copies_most : (copies : List ℕ) → copies_left copies ≤ 1
copies_most [] = omega arith
copies_most (words ∷ copies) = omega arith

copies_grow : (took : List (List ℕ)) (a b : SideState) → Awaits took a b → copies_left b.copies ≤ copies_left a.copies + length took
copies_grow [] a b h = omega (arith, ap copies_left (h.stay refl).0)
copies_grow (message ∷ took) a b h = omega (arith, copies_most b.copies)

-- and what is left does not
pub works_left : (hears : Bool) (a b : SideState) → Works hears a b → weight b.book.trail ≤ MOST_WEIGHT → side_left b ≤ side_left a
works_left hears a b w most = omega (arith, works_weigh hears a b w, copies_grow w.took a b w.awaits, most)

-- ---- a call that may not hear

trail_is : (a b : TrailRecord) → b.side ≡ a.side → b.taken ≡ a.taken → b.made ≡ a.made → b.copies ≡ a.copies → b.lines ≡ a.lines → b.accepted ≡ a.accepted → b.acknowledged ≡ a.acknowledged → b.given ≡ a.given → b ≡ a
trail_is a b e1 e2 e3 e4 e5 e6 e7 e8 =
    ap (λ x. record b { side = x }) e1
    ∙ ap (λ x. record b { side = a.side; taken = x }) e2
    ∙ ap (λ x. record b { side = a.side; taken = a.taken; made = x }) e3
    ∙ ap (λ x. record b { side = a.side; taken = a.taken; made = a.made; copies = x }) e4
    ∙ ap (λ x. record b { side = a.side; taken = a.taken; made = a.made; copies = a.copies; lines = x }) e5
    ∙ ap (λ x. record a { accepted = x; acknowledged = b.acknowledged; given = b.given }) e6
    ∙ ap (λ x. record a { acknowledged = x; given = b.given }) e7
    ∙ ap (λ x. record a { given = x }) e8

inside_is : (a b : Inside) → b.inlet ≡ a.inlet → b.objects ≡ a.objects → b.asked ≡ a.asked → b ≡ a
inside_is a b e1 e2 e3 = ap (λ x. record b { inlet = x }) e1 ∙ ap (λ x. record b { inlet = a.inlet; objects = x }) e2 ∙ ap (λ x. record a { asked = x }) e3

pub side_is : (a b : SideState) → b.book.trail ≡ a.book.trail → b.book.order ≡ a.book.order → b.inside ≡ a.inside → b.copies ≡ a.copies → b.loaded ≡ a.loaded → b ≡ a
side_is a b e1 e2 e3 e4 e5 =
    ap (λ x. record b { book = record b.book { trail = x } }) e1
    ∙ ap (λ x. record b { book = record a.book { order = x } }) e2
    ∙ ap (λ x. record b { book = a.book; inside = x }) e3
    ∙ ap (λ x. record b { book = a.book; inside = a.inside; copies = x }) e4
    ∙ ap (λ x. record a { loaded = x }) e5

-- it changes nothing, or the records grow
nothing_more : (a b : SideState) (w : Works false a b) → w.took ≡ [] → (more : More w.took a.book.trail b.book.trail) → more.frames ≡ [] → more.copies ≡ [] → b ≡ a
nothing_more a b w none more frames copies =
    let quiet : Silent w.took a b = w.silent refl in
    side_is a b
    (trail_is a.book.trail b.book.trail w.trail.side (w.trail.taken ∙ ap (λ took. a.book.trail.taken ++ took) none ∙ append-nil a.book.trail.taken)
    (sym more.made ∙ ap (λ fs. a.book.trail.made ++ fs) frames ∙ append-nil a.book.trail.made)
    (sym more.copied ∙ ap (λ cs. a.book.trail.copies ++ cs) copies ∙ append-nil a.book.trail.copies)
    w.trail.lines quiet.accepted quiet.acknowledged quiet.given)
    (quiet.order none) (inside_is a.inside b.inside (w.inside.none none) (quiet.objects none) w.inside.asked) (w.awaits.stay none).0 (w.awaits.stay none).1

frames_weigh : (frames : List Frame) → (frames ≡ []) ⊎ (0 < sum_by spelled frames)
frames_weigh [] = inl refl
frames_weigh (frame ∷ frames) = inr (omega (arith, sum_by-cons spelled frame frames, spelling_long frame))

copies_weigh : (copies : List CopyRecord) → (copies ≡ []) ⊎ (0 < length copies)
copies_weigh [] = inl refl
copies_weigh (copy ∷ copies) = inr (omega arith)

none_took : (took : List (List ℕ)) → (took ≡ []) ⊎ (0 < length took)
none_took [] = inl refl
none_took (message ∷ took) = inr (omega arith)

pub works_fall : (a b : SideState) → Works false a b → weight b.book.trail ≤ MOST_WEIGHT → (b ≡ a) ⊎ (side_left b < side_left a)
works_fall a b w most = by_took (none_took w.took)
  where
    more : More w.took a.book.trail b.book.trail
    more = grows_more w.took a.book.trail b.book.trail w.trail

    copies_same : w.took ≡ [] → copies_left b.copies ≡ copies_left a.copies
    copies_same none = ap copies_left (w.awaits.stay none).0

    by_copies : w.took ≡ [] → more.frames ≡ [] → (more.copies ≡ []) ⊎ (0 < length more.copies) → (b ≡ a) ⊎ (side_left b < side_left a)
    by_copies none frames (inl copies) = inl (nothing_more a b w none more frames copies)
    by_copies none frames (inr some) = inr (omega (arith, more.weighs, copies_same none, some, most))

    by_frames : w.took ≡ [] → (more.frames ≡ []) ⊎ (0 < sum_by spelled more.frames) → (b ≡ a) ⊎ (side_left b < side_left a)
    by_frames none (inl frames) = by_copies none frames (copies_weigh more.copies)
    by_frames none (inr some) = inr (omega (arith, more.weighs, copies_same none, some, most))

    by_took : (w.took ≡ []) ⊎ (0 < length w.took) → (b ≡ a) ⊎ (side_left b < side_left a)
    by_took (inl none) = by_frames none (frames_weigh more.frames)
    by_took (inr some) = inr (omega (arith, works_weigh false a b w, copies_grow w.took a b w.awaits, some, most))

-- ---- lines

line_new : (connection : ℕ) (rows : List Line) → sum_by line_weight (rows ++ new_line connection ∷ []) + ITEM_WEIGHT * length (rows ++ new_line connection ∷ []) ≡ sum_by line_weight rows + ITEM_WEIGHT * length rows + ITEM_WEIGHT
line_new connection rows = omega (arith, sum_by_push line_weight rows (new_line connection), length-append rows (new_line connection ∷ []))

pub line_weighs : (connection : ℕ) (a : SideState) → weight (with_line connection a).book.trail ≡ weight a.book.trail + ITEM_WEIGHT
unfolding weight
line_weighs connection a = omega (arith, line_new connection (rows_of a))

-- bytes on the last line
last_more : (change : Line → Line) (n : ℕ) → ((line : Line) → line_weight (change line) ≡ line_weight line + n) → (rows : List Line) → rows ≢ []
    → (sum_by line_weight (on_last change rows) ≡ sum_by line_weight rows + n) × (length (on_last change rows) ≡ length rows)
last_more change n more [] some = absurd (some refl)
last_more change n more (line ∷ []) some = (omega (arith, sum_by-cons line_weight (change line) [], sum_by-cons line_weight line [], more line), refl)
last_more change n more (line ∷ next ∷ rows) some =
    let rest = last_more change n more (next ∷ rows) (λ e. cc) in
    (omega (arith, sum_by-cons line_weight line (on_last change (next ∷ rows)), sum_by-cons line_weight line (next ∷ rows), rest.0), omega (arith, rest.1))

rows_weigh : (change : List Line → List Line) (n : ℕ) (a : SideState) → (sum_by line_weight (change (rows_of a)) ≡ sum_by line_weight (rows_of a) + n) × (length (change (rows_of a)) ≡ length (rows_of a))
    → weight (on_rows change a).book.trail ≡ weight a.book.trail + n
unfolding weight
rows_weigh change n a h = omega (arith, h.0, h.1)

pub written_weighs : (bytes : List ℕ) (a : SideState) → rows_of a ≢ [] → weight (written bytes a).book.trail ≡ weight a.book.trail + length bytes
written_weighs bytes a some =
    rows_weigh (on_last (with_written bytes)) (length bytes) a
    (last_more (with_written bytes) (length bytes) (λ line. omega (arith, length-append line.written bytes)) (rows_of a) some)

pub read_weighs : (bytes : List ℕ) (a : SideState) → rows_of a ≢ [] → weight (read bytes a).book.trail ≡ weight a.book.trail + length bytes
read_weighs bytes a some =
    rows_weigh (on_last (with_read bytes)) (length bytes) a
    (last_more (with_read bytes) (length bytes) (λ line. omega (arith, length-append line.read bytes)) (rows_of a) some)

-- no bytes change nothing
last_none : (rows : List Line) → on_last (with_written []) rows ≡ rows
last_none [] = refl
last_none (line ∷ []) = ap (λ (bytes : List ℕ). record line { written = bytes } ∷ []) (append-nil line.written)
last_none (line ∷ next ∷ rows) = ap (λ (lines : List Line). line ∷ lines) (last_none (next ∷ rows))

pub written_none : (a : SideState) → written [] a ≡ a
written_none a = ap (λ (rows : List Line). on_rows (λ _. rows) a) (last_none (rows_of a))
