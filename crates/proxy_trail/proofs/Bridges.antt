-- The records behind a row of events are those behind its notes, but for the counts of frames.
use Rattle.std.proofs.Common.{◌≡◌, ℕ, ◌+◌, ◌≤◌, List, [], ◌∷◌, ◌++◌, length, map, replicate, Option, Some, None, refl, sym, ap, subst, ◌∙◌, arith, append_assoc, inl, inr, ◌⊎◌}
use Rattle.std.proofs.lemmas.List.{append-nil}
use Rattle.wl_wire.specs.Wire.{cut}
use Rattle.wl_tables.specs.declared.way.Way.{Way}
use Rattle.wp_outside.specs.declared.kinds.Side.{Side}
use Rattle.transfer_frames.specs.declared.frame.Frame.{Frame}
use Rattle.transfer_frames.specs.declared.frame.Frame.TheVariants.{Protocol, Inject, OpenFile, ExtendFile, Fill, OpenPipe, PipeTransfer, PipeShutR, PipeShutW, Ack, Restart, Close}
use Rattle.half_model.specs.declared.notes.Noted.{Noted}
use Rattle.half_model.specs.declared.notes.Noted.TheVariants as notes
use Rattle.half_model.specs.Log as marks
use Rattle.half_model.specs.Log.{Mark}
use Rattle.half_model.specs.Sides.{other_way}
use Rattle.half_model.specs.Story.{messages_of}
use Rattle.side_model.specs.Books.{Book, TrailRecord, Lined, MOST_WEIGHT, weight, marked_trail, marked_order, mark_cost, line_cost, rows_after, given_after, with_rows, grown, grow_all, Fit}
use Rattle.side_model.specs.Calls.{Part}
use Rattle.side_model.specs.Events.{Event, Heard, Took, Grouped, Ended, Chose, Do}
use Rattle.side_model.specs.Due.{next}
use Rattle.side_model.specs.Marks.{mark_of, notes_of}
use Rattle.side_model.specs.RowLaws.{IsWork}
use Rattle.side_model.specs.State.{Now}
use Rattle.side_model.specs.Steps.{step}
use Rattle.side_model.proofs.Parts.{same_step, FollowsOn, follows_part}
use Rattle.side_model.proofs.Weighing.{weight_grows}
use Rattle.trail_records.specs.Noting.{noted, noted_all, NotesFit, note_weight, with_counts, with_lines}
use Rattle.proxy_trail.proofs.NoteRows.{Inner, Hears, Works, Chooses, inner, notes_along, OneNote, NoNote, ANote, one_note}

-- ---- without the counts of frames

abbrev pub erased : Book → Book
erased book = with_counts 0 0 book

pub weight_erased : (book : Book) → weight (erased book).trail ≡ weight book.trail
unfolding weight
weight_erased book = refl

noted_erased : (note : Noted) (book : Book) → noted note (erased book) ≡ erased (noted note book)
noted_erased (notes.Taken message) book = refl
noted_erased (notes.Received messages) book = refl
noted_erased (notes.Group frames copies) book = refl

pub all_erased : (ns : List Noted) (book : Book) → noted_all ns (erased book) ≡ erased (noted_all ns book)
all_erased [] book = refl
all_erased (n ∷ ns) book = ap (noted_all ns) (noted_erased n book) ∙ all_erased ns (noted n book)

pub fit_erased : (ns : List Noted) (book : Book) → NotesFit ns book → NotesFit ns (erased book)
fit_erased [] book h = tt
fit_erased (n ∷ ns) book h =
    (omega (arith, weight_erased book, h.0), subst (λ (b : Book). NotesFit ns b) (sym (noted_erased n book)) (fit_erased ns (noted n book) h.1))

pub all_append : (ms ns : List Noted) (book : Book) → noted_all (ms ++ ns) book ≡ noted_all ns (noted_all ms book)
all_append [] ns book = refl
all_append (m ∷ ms) ns book = all_append ms ns (noted m book)

-- ---- one mark

same_ways : (way : Way) (messages : List (List ℕ)) → map (λ message. way) messages ≡ replicate (length messages) way
same_ways way [] = refl
same_ways way (m ∷ ms) = ap (λ ways. way ∷ ways) (same_ways way ms)

-- the records behind a mark, with these lines
abbrev pub marked_book : Side → Option Mark → Lined → Book → Book
marked_book side mark lines book = record {
  trail = record (marked_trail mark book.trail) { lines = lines; given = book.trail.given };
  order = marked_order side mark book.order;
}

abbrev pub lined : Lined → Book → Book
lined lines book = record book { trail = record book.trail { lines = lines } }

no_messages : (order : List Way) (lines : Lined) (book : Book) (accepted acknowledged : ℕ)
    → erased (record { trail = record book.trail { lines = lines; accepted = accepted; acknowledged = acknowledged }; order = book.order ++ [] }) ≡ erased (lined lines book)
no_messages order lines book accepted acknowledged = ap (λ (ways : List Way). record (erased (lined lines book)) { order = ways }) (append-nil book.order)

frame_noted : (frame : Frame) (lines : Lined) (book : Book) → erased (marked_book book.trail.side (Some (marks.Heard frame)) lines book) ≡ noted_all (notes_of (Some (marks.Heard frame))) (erased (lined lines book))
frame_noted (Protocol bytes) lines book =
    ap (λ (ways : List Way). record (erased (lined lines book)) { order = book.order ++ ways }) (same_ways (other_way book.trail.side) (cut bytes))
frame_noted (Inject rids) lines book = no_messages book.order lines book 0 0
frame_noted (OpenFile rid size) lines book = no_messages book.order lines book 0 0
frame_noted (ExtendFile rid size) lines book = no_messages book.order lines book 0 0
frame_noted (Fill rid start end bytes) lines book = no_messages book.order lines book 0 0
frame_noted (OpenPipe rid) lines book = no_messages book.order lines book 0 0
frame_noted (PipeTransfer rid bytes) lines book = no_messages book.order lines book 0 0
frame_noted (PipeShutR rid) lines book = no_messages book.order lines book 0 0
frame_noted (PipeShutW rid) lines book = no_messages book.order lines book 0 0
frame_noted (Ack count) lines book = no_messages book.order lines book 0 0
frame_noted (Restart token connection received) lines book = no_messages book.order lines book 0 0
frame_noted (Close reason) lines book = no_messages book.order lines book 0 0

mark_noted : (mark : Option Mark) (lines : Lined) (book : Book) → erased (marked_book book.trail.side mark lines book) ≡ noted_all (notes_of mark) (erased (lined lines book))
mark_noted None lines book = refl
mark_noted (Some (marks.Taken message handle segments)) lines book = refl
mark_noted (Some (marks.Heard frame)) lines book = frame_noted frame lines book
mark_noted (Some (marks.Grouped frames copies)) lines book = refl
mark_noted (Some (marks.Dropped rid)) lines book = refl

-- ---- one event

-- one that gives nothing
pub event_noted : (event : Event) (s : Now) (book : Book) → book.trail.side ≡ s.side → given_after event s.live book.trail.given ≡ book.trail.given
    → erased (grown event s book) ≡ noted_all (notes_of (mark_of event s)) (erased (with_lines (rows_after event s.live.here book.trail.lines.rows) book))
event_noted event s book side given =
    ap (λ (n : ℕ). erased (record {
      trail = record (marked_trail (mark_of event s) book.trail) { lines = with_rows (rows_after event s.live.here book.trail.lines.rows) book.trail.lines; given = n };
      order = marked_order s.side (mark_of event s) book.order;
    })) given
    ∙ ap (λ (x : Side). erased (marked_book x (mark_of event s) (with_rows (rows_after event s.live.here book.trail.lines.rows) book.trail.lines) book)) (sym side)
    ∙ mark_noted (mark_of event s) (with_rows (rows_after event s.live.here book.trail.lines.rows) book.trail.lines) book

-- one that is due changes no line and gives nothing
record Inside (event : Event) (s : Now) (book : Book) : Type 0 where
  lines : rows_after event s.live.here book.trail.lines.rows ≡ book.trail.lines.rows
  given : given_after event s.live book.trail.given ≡ book.trail.given
  light : line_cost event s.live.here ≡ 0

inside : (event : Event) (s : Now) (book : Book) → Inner s event → Inside event s book
inside event s book (Hears frame is) = subst (λ (v : Event). Inside v s book) (sym is) (record { lines = refl; given = refl; light = refl })
inside event s book (Works q (inl is)) = subst (λ (v : Event). Inside v s book) (sym is) (record { lines = refl; given = refl; light = refl })
inside event s book (Works q (inr (inl is))) = subst (λ (v : Event). Inside v s book) (sym is) (record { lines = refl; given = refl; light = refl })
inside event s book (Works q (inr (inr is))) = subst (λ (v : Event). Inside v s book) (sym is) (record { lines = refl; given = refl; light = refl })
inside event s book (Chooses q is) = subst (λ (v : Event). Inside v s book) (sym is) (record { lines = refl; given = refl; light = refl })

pub due_noted : (event : Event) (s : Now) (book : Book) → book.trail.side ≡ s.side → next s ≡ Do event → erased (grown event s book) ≡ noted_all (notes_of (mark_of event s)) (erased book)
due_noted event s book side due =
    let i : Inside event s book = inside event s book (inner s event due) in
    event_noted event s book side i.given ∙ ap (λ rows. noted_all (notes_of (mark_of event s)) (erased (with_lines rows book))) i.lines

marked_side : (mark : Option Mark) (trail : TrailRecord) → (marked_trail mark trail).side ≡ trail.side
marked_side None trail = refl
marked_side (Some (marks.Taken message handle segments)) trail = refl
marked_side (Some (marks.Heard frame)) trail = refl
marked_side (Some (marks.Grouped frames copies)) trail = refl
marked_side (Some (marks.Dropped rid)) trail = refl

pub grown_side : (event : Event) (s : Now) (book : Book) → book.trail.side ≡ s.side → (grown event s book).trail.side ≡ (step event s).side
grown_side event s book side = marked_side (mark_of event s) book.trail ∙ side ∙ sym (same_step event s).side

-- ---- a row of events

pub along : (s t : Now) (events : List Event) (book : Book) → book.trail.side ≡ s.side → Part s events t → erased (grow_all events s book) ≡ noted_all (notes_along events s) (erased book)
along s t [] book side p = refl
along s t (x ∷ xs) book side p =
    along (step x s) t xs (grown x s book) (grown_side x s book side) p.1 ∙ ap (noted_all (notes_along xs (step x s))) (due_noted x s book side p.0)
    ∙ sym (all_append (notes_of (mark_of x s)) (notes_along xs (step x s)) (erased book))

-- the first of some notes, and those behind it
pub record FitsOne (mark : Option Mark) (rest : List Noted) (book : Book) : Type 0 where
  pub first : weight book.trail + mark_cost mark ≤ MOST_WEIGHT
  pub then : NotesFit rest (noted_all (notes_of mark) book)

pub fits_one : (mark : Option Mark) (rest : List Noted) (book : Book) → weight book.trail ≤ MOST_WEIGHT → NotesFit (notes_of mark ++ rest) book → FitsOne mark rest book
fits_one mark rest book w h = by_note (one_note mark)
  where
    by_note : OneNote mark → FitsOne mark rest book
    by_note (NoNote none z) =
        let fit : NotesFit rest book = subst (λ (ns : List Noted). NotesFit (ns ++ rest) book) none h in
        record { first = omega (arith, z, w); then = subst (λ (ns : List Noted). NotesFit rest (noted_all ns book)) (sym none) fit }
    by_note (ANote note is c) =
        let fit : NotesFit (note ∷ rest) book = subst (λ (ns : List Noted). NotesFit (ns ++ rest) book) is h in
        record { first = omega (arith, c, fit.0); then = subst (λ (ns : List Noted). NotesFit rest (noted_all ns book)) (sym is) fit.1 }

pub fits_along : (s t : Now) (events : List Event) (book : Book) → FollowsOn s book → book.trail.side ≡ s.side → Part s events t → weight book.trail ≤ MOST_WEIGHT → NotesFit (notes_along events s) (erased book)
    → Fit events s book
fits_along s t [] book f side p w h = tt
fits_along s t (x ∷ xs) book f side p w h =
    let i : Inside x s book = inside x s book (inner s x p.0) in
    let one : FitsOne (mark_of x s) (notes_along xs (step x s)) (erased book) = fits_one (mark_of x s) (notes_along xs (step x s)) (erased book) (omega (arith, weight_erased book, w)) h in
    let first : weight book.trail + mark_cost (mark_of x s) ≤ MOST_WEIGHT = omega (arith, weight_erased book, one.first) in (
      omega (arith, first, i.light),
      fits_along (step x s) t xs (grown x s book) (follows_part s (step x s) book (x ∷ []) f (p.0, refl)) (grown_side x s book side) p.1
          (omega (arith, weight_grows x s book f.follows, first, i.light))
          (subst (λ (b : Book). NotesFit (notes_along xs (step x s)) b) (sym (due_noted x s book side p.0)) one.then),
    )
