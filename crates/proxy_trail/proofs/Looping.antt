-- Notes are recorded one after another, up to the last or to one that can't be.
use Rattle.std.proofs.Common.{◌≡◌, ℕ, ◌+◌, ◌<◌, ◌≤◌, List, [], ◌∷◌, ◌++◌, drop, length, Option, Some, None, Result, Ok, Err, refl, sym, ap, subst, ◌∙◌, arith, append_assoc}
use Rattle.std.proofs.lemmas.List.{append-nil}
use Rattle.std.specs.List.{AllByRecursion}
use Rattle.std.specs.Prelude.{slice_get}
use Rattle.half_model.specs.declared.notes.Noted.{Noted}
use Rattle.half_model.specs.declared.notes.Noted.TheVariants.{Taken, Received, Group}
use Rattle.side_model.specs.Books.{Book, MOST_WEIGHT, weight}
use Rattle.side_model.specs.Events.{Told}
use Rattle.side_model.specs.State.{Now}
use Rattle.side_model.specs.Steps.{step}
use Rattle.side_model.specs.Trails.{with_notes}
use Rattle.trail_records.specs.declared.unrecorded.Unrecorded.{Unrecorded}
use Rattle.trail_records.specs.declared.unrecorded.Unrecorded.TheVariants.{TooHeavy, Memory}
use Rattle.trail_records.specs.Noting.{noted, noted_all, NotesFit, note_weight, IsNote, Adds}
use Rattle.proxy_trail.specs.Recording.{NotesUpTo, NotesDone}
use Rattle.proxy_trail.proofs.Bridges.{all_append}

-- some of the notes are recorded, and the others are left
pub record SoFar (start s : Now) (first book : Book) : Type 0 where
  pub done : List Noted
  pub row : start.kept.notes ≡ done ++ s.kept.notes
  pub now : s ≡ with_notes s.kept.notes start
  pub fit : NotesFit done first
  pub book_is : book ≡ noted_all done first
  pub closed : book.trail.lines.room ≡ 0
  pub notes : AllByRecursion IsNote s.kept.notes

pub none_so_far : (s : Now) (book : Book) → book.trail.lines.room ≡ 0 → AllByRecursion IsNote s.kept.notes → SoFar s s book book
none_so_far s book closed notes = record { done = []; row = refl; now = refl; fit = tt; book_is = refl; closed = closed; notes = notes }

told : (s : Now) → step Told s ≡ with_notes (drop 1 s.kept.notes) s
unfolding step
told s = refl

-- the first of some notes
record FirstOf (notes : List Noted) (note : Noted) : Type 0 where
  row : notes ≡ note ∷ drop 1 notes

first_of_notes : (notes : List Noted) (note : Noted) → Some note ≡ slice_get notes 0 → FirstOf notes note
first_of_notes [] note e = absurd cc
first_of_notes (n ∷ ns) note e = record { row = let same : note ≡ n = cc in ap (λ m. m ∷ ns) (sym same) }

fit_push : (done : List Noted) (note : Noted) (first : Book) → NotesFit done first → weight (noted_all done first).trail + note_weight note ≤ MOST_WEIGHT → NotesFit (done ++ note ∷ []) first
fit_push [] note first f w = (w, tt)
fit_push (d ∷ ds) note first f w = (f.0, fit_push ds note (noted d first) f.1 w)

room_noted : (note : Noted) (book : Book) → (noted note book).trail.lines.room ≡ book.trail.lines.room
room_noted (Taken message) book = refl
room_noted (Received messages) book = refl
room_noted (Group frames copies) book = refl

pub more_so_far : (start s t : Now) (first book after : Book) (note : Noted) → SoFar start s first book → Some note ≡ slice_get s.kept.notes 0 → t ≡ step Told s → Adds (note_weight note) (noted note) (Ok tt) book after
    → SoFar start t first after
more_so_far start s t first book after note h e k a =
    let head : FirstOf s.kept.notes note = first_of_notes s.kept.notes note e in
    let is : t ≡ with_notes (drop 1 s.kept.notes) s = k ∙ told s in
    let left : t.kept.notes ≡ drop 1 s.kept.notes = ap (λ (u : Now). u.kept.notes) is in
    record {
      done = h.done ++ note ∷ [];
      row = h.row ∙ ap (λ ns. h.done ++ ns) (head.row ∙ ap (λ ns. note ∷ ns) (sym left)) ∙ sym (append_assoc h.done (note ∷ []) t.kept.notes);
      now = is ∙ ap (λ (u : Now). with_notes (drop 1 s.kept.notes) u) h.now ∙ ap (λ ns. with_notes ns start) (sym left);
      fit = fit_push h.done note first h.fit (omega (arith, a.0, ap (λ (b : Book). weight b.trail) h.book_is));
      book_is = a.1 ∙ ap (noted note) h.book_is ∙ sym (all_append h.done (note ∷ []) first);
      closed = ap (λ (b : Book). b.trail.lines.room) a.1 ∙ room_noted note book ∙ h.closed;
      notes = subst (λ (ns : List Noted). AllByRecursion IsNote ns) (sym left) (subst (λ (ns : List Noted). AllByRecursion IsNote ns) head.row h.notes).1;
    }

-- the note that comes next is good
pub next_note : (s : Now) (note : Noted) → Some note ≡ slice_get s.kept.notes 0 → AllByRecursion IsNote s.kept.notes → IsNote note
next_note s note e h = (subst (λ (ns : List Noted). AllByRecursion IsNote ns) (first_of_notes s.kept.notes note e).row h).0

-- fewer are left
pub fewer_left : (s t : Now) (note : Noted) → Some note ≡ slice_get s.kept.notes 0 → t ≡ step Told s → length t.kept.notes < length s.kept.notes
fewer_left s t note e k =
    omega (arith, ap length (first_of_notes s.kept.notes note e).row, ap (λ (u : Now). length u.kept.notes) (k ∙ told s))

no_notes : (notes : List Noted) → None ≡ slice_get notes 0 → notes ≡ []
no_notes [] e = refl
no_notes (n ∷ ns) e = absurd cc

pub all_so_far : (start s t : Now) (first book : Book) → SoFar start s first book → None ≡ slice_get s.kept.notes 0 → t ≡ step Told s → NotesDone start t first book
all_so_far start s t first book h e k =
    let none : s.kept.notes ≡ [] = no_notes s.kept.notes e in
    let all : start.kept.notes ≡ h.done = h.row ∙ ap (λ ns. h.done ++ ns) none ∙ append-nil h.done in
    record {
      now = k ∙ told s ∙ ap (λ ns. with_notes (drop 1 ns) s) none ∙ ap (λ (u : Now). with_notes [] u) h.now;
      fit = subst (λ (ns : List Noted). NotesFit ns first) (sym all) h.fit;
      book = h.book_is ∙ ap (λ ns. noted_all ns first) (sym all);
    }

record NotAdded (why : Unrecorded) (more : ℕ) (before after : Book) : Type 0 where
  same : after ≡ before
  heavy : why ≡ TooHeavy → MOST_WEIGHT < weight before.trail + more

not_added : (why : Unrecorded) (more : ℕ) (change : Book → Book) (before after : Book) → Adds more change (Err why) before after → NotAdded why more before after
not_added TooHeavy more change before after a = record { same = a.1; heavy = λ e. a.0 }
not_added Memory more change before after a = record { same = a; heavy = λ e. absurd cc }

pub up_to : (why : Unrecorded) (start s t : Now) (first book after : Book) (note : Noted) → SoFar start s first book → Some note ≡ slice_get s.kept.notes 0 → t ≡ step Told s → Adds (note_weight note) (noted note) (Err why) book after
    → NotesUpTo why start t first after
up_to why start s t first book after note h e k a =
    let head : FirstOf s.kept.notes note = first_of_notes s.kept.notes note e in
    let n : NotAdded why (note_weight note) book after = not_added why (note_weight note) (noted note) book after a in
    record {
      done = h.done;
      note = note;
      left = drop 1 s.kept.notes;
      row = h.row ∙ ap (λ ns. h.done ++ ns) head.row;
      now = k ∙ told s ∙ ap (λ (u : Now). with_notes (drop 1 s.kept.notes) u) h.now;
      fit = h.fit;
      book = n.same ∙ h.book_is;
      heavy = λ f. omega (arith, n.heavy f, ap (λ (b : Book). weight b.trail) h.book_is);
    }
