-- What is noted along a row of events, and of which event a note is.
use Rattle.std.proofs.Common.{◌≡◌, ℕ, List, [], ◌∷◌, ◌++◌, length, Option, Some, None, refl, sym, ap, subst, ◌∙◌, append_assoc, inl, inr}
use Rattle.std.proofs.lemmas.List.{append-nil}
use Rattle.wl_wire.specs.Wire.{cut}
use Rattle.transfer_frames.specs.declared.frame.Frame.{Frame}
use Rattle.transfer_frames.specs.declared.frame.Frame.TheVariants.{Protocol, Inject, OpenFile, ExtendFile, Fill, OpenPipe, PipeTransfer, PipeShutR, PipeShutW, Ack, Restart, Close}
use Rattle.half_model.specs.declared.notes.Noted.{Noted}
use Rattle.half_model.specs.declared.notes.Noted.TheVariants as notes
use Rattle.half_model.specs.Log as marks
use Rattle.half_model.specs.Log.{Mark}
use Rattle.side_model.specs.Books.{mark_cost}
use Rattle.side_model.specs.Calls.{Part}
use Rattle.side_model.specs.Due.{hear, next}
use Rattle.side_model.specs.Events.{Event, Told, Heard, Took, Grouped, Ended, Chose, Do, Rest}
use Rattle.side_model.specs.Marks.{mark_of, notes_of}
use Rattle.side_model.specs.RowLaws.{IsHeard, IsWork}
use Rattle.side_model.specs.State.{Now}
use Rattle.side_model.specs.Steps.{step}
use Rattle.side_model.specs.Trails.{step_all}
use Rattle.side_model.proofs.Dues.{DueIn, InHear, InGroup, InTreat, InEnd, InChoose, due_in, frame_due, group_is_due, turn_due, end_is_due, choice_due}
use Rattle.side_model.proofs.Noting.{notes_grow}
use Rattle.trail_records.specs.Noting.{note_weight}

-- ---- which events are due

-- a frame is heard; or none is due, and it is of the work, or a choice
pub data Inner (s : Now) (event : Event) : Type 0 where
  Hears : (frame : Frame) → event ≡ Heard frame → Inner s event
  Works : hear s ≡ Rest → IsWork event → Inner s event
  Chooses : hear s ≡ Rest → event ≡ Chose → Inner s event

pub inner : (s : Now) (event : Event) → next s ≡ Do event → Inner s event
inner s event due = by_phase (due_in s event due)
  where
    by_phase : DueIn s event → Inner s event
    by_phase (InHear d) = Hears (frame_due s event d).frame (frame_due s event d).is
    by_phase (InGroup a d) = Works a (inr (inl (group_is_due s event d).is))
    by_phase (InTreat a b d) = Works a (inl (turn_due s event d).is)
    by_phase (InEnd a b c d) = Works a (inr (inr (end_is_due s event d).is))
    by_phase (InChoose a b c e d) = Chooses a (choice_due s event d).is

inner_told : (s : Now) (event : Event) → Inner s event → event ≡ Told → ⊥
inner_told s event (Hears frame is) e = let never : Told ≡ Heard frame = sym e ∙ is in cc
inner_told s event (Works q (inl is)) e = let never : Told ≡ Took = sym e ∙ is in cc
inner_told s event (Works q (inr (inl is))) e = let never : Told ≡ Grouped = sym e ∙ is in cc
inner_told s event (Works q (inr (inr is))) e = let never : Told ≡ Ended = sym e ∙ is in cc
inner_told s event (Chooses q is) e = let never : Told ≡ Chose = sym e ∙ is in cc

-- ---- what is noted

abbrev pub notes_along : List Event → Now → List Noted
notes_along [] s = []
notes_along (event ∷ events) s = notes_of (mark_of event s) ++ notes_along events (step event s)

pub notes_part : (s t : Now) (events : List Event) → Part s events t → t.kept.notes ≡ s.kept.notes ++ notes_along events s
notes_part s t [] p = ap (λ (u : Now). u.kept.notes) p ∙ sym (append-nil s.kept.notes)
notes_part s t (x ∷ xs) p =
    notes_part (step x s) t xs p.1 ∙ ap (λ ns. ns ++ notes_along xs (step x s)) (notes_grow x s (inner_told s x (inner s x p.0)))
    ∙ append_assoc s.kept.notes (notes_of (mark_of x s)) (notes_along xs (step x s))

-- a mark is noted once at most, and the note weighs what the mark does
pub data OneNote (mark : Option Mark) : Type 0 where
  NoNote : notes_of mark ≡ [] → mark_cost mark ≡ 0 → OneNote mark
  ANote : (note : Noted) → notes_of mark ≡ note ∷ [] → mark_cost mark ≡ note_weight note → OneNote mark

one_frame : (frame : Frame) → OneNote (Some (marks.Heard frame))
one_frame (Protocol bytes) = ANote (notes.Received (length (cut bytes))) refl refl
one_frame (Inject rids) = NoNote refl refl
one_frame (OpenFile rid size) = NoNote refl refl
one_frame (ExtendFile rid size) = NoNote refl refl
one_frame (Fill rid start end bytes) = NoNote refl refl
one_frame (OpenPipe rid) = NoNote refl refl
one_frame (PipeTransfer rid bytes) = NoNote refl refl
one_frame (PipeShutR rid) = NoNote refl refl
one_frame (PipeShutW rid) = NoNote refl refl
one_frame (Ack count) = NoNote refl refl
one_frame (Restart token connection received) = NoNote refl refl
one_frame (Close reason) = NoNote refl refl

pub one_note : (mark : Option Mark) → OneNote mark
one_note None = NoNote refl refl
one_note (Some (marks.Taken message handle segments)) = ANote (notes.Taken message) refl refl
one_note (Some (marks.Heard frame)) = one_frame frame
one_note (Some (marks.Grouped frames copies)) = ANote (notes.Group frames copies) refl refl
one_note (Some (marks.Dropped rid)) = NoNote refl refl

-- what a note weighs, of the mark whose note it is
pub weight_of_note : (mark : Option Mark) (note : Noted) → notes_of mark ≡ note ∷ [] → mark_cost mark ≡ note_weight note
weight_of_note mark note e = by_note (one_note mark)
  where
    by_note : OneNote mark → mark_cost mark ≡ note_weight note
    by_note (NoNote none z) = absurd (let never : [] ≡ note ∷ [] = sym none ∙ e in cc)
    by_note (ANote other is w) = let both : other ∷ [] ≡ note ∷ [] = sym is ∙ e in let same : other ≡ note = cc in w ∙ ap note_weight same

-- ---- the event of a note

pub record SplitAt (events : List Event) (s : Now) (done : List Noted) (heavy : Noted) : Type 0 where
  pub recorded : List Event
  pub event : Event
  pub more : List Event
  pub row : events ≡ recorded ++ event ∷ more
  pub before : notes_along recorded s ≡ done
  pub note : notes_of (mark_of event (step_all recorded s)) ≡ heavy ∷ []

no_note : (done : List Noted) (heavy : Noted) (left : List Noted) → [] ≡ done ++ heavy ∷ left → ⊥
no_note [] heavy left e = cc
no_note (d ∷ ds) heavy left e = cc

later : (x : Event) (xs : List Event) (s : Now) (ds done : List Noted) (heavy : Noted) → notes_of (mark_of x s) ++ ds ≡ done → SplitAt xs (step x s) ds heavy → SplitAt (x ∷ xs) s done heavy
later x xs s ds done heavy e r = record {
  recorded = x ∷ r.recorded;
  event = r.event;
  more = r.more;
  row = ap (λ (es : List Event). x ∷ es) r.row;
  before = ap (λ (ns : List Noted). notes_of (mark_of x s) ++ ns) r.before ∙ e;
  note = r.note;
}

pub split : (events : List Event) (s : Now) (done : List Noted) (heavy : Noted) (left : List Noted) → notes_along events s ≡ done ++ heavy ∷ left → SplitAt events s done heavy
split [] s done heavy left e = absurd (no_note done heavy left e)
split (x ∷ xs) s done heavy left e = by_note (λ ds k. split xs (step x s) ds heavy left k) (one_note (mark_of x s)) done e
  where
    by_note : ((ds : List Noted) → notes_along xs (step x s) ≡ ds ++ heavy ∷ left → SplitAt xs (step x s) ds heavy) → OneNote (mark_of x s) → (done : List Noted)
        → notes_of (mark_of x s) ++ notes_along xs (step x s) ≡ done ++ heavy ∷ left → SplitAt (x ∷ xs) s done heavy
    by_note again (NoNote none z) done e =
        later x xs s done done heavy (ap (λ ns. ns ++ done) none) (again done (sym (ap (λ ns. ns ++ notes_along xs (step x s)) none) ∙ e))
    by_note again (ANote note is w) [] e =
        let both : note ∷ notes_along xs (step x s) ≡ heavy ∷ left = sym (ap (λ ns. ns ++ notes_along xs (step x s)) is) ∙ e in
        let same : note ≡ heavy = cc in
        record { recorded = []; event = x; more = xs; row = refl; before = refl; note = is ∙ ap (λ n. n ∷ []) same }
    by_note again (ANote note is w) (d ∷ ds) e =
        let both : note ∷ notes_along xs (step x s) ≡ d ∷ (ds ++ heavy ∷ left) = sym (ap (λ ns. ns ++ notes_along xs (step x s)) is) ∙ e in
        let same : note ≡ d = cc in
        let rest : notes_along xs (step x s) ≡ ds ++ heavy ∷ left = cc in
        later x xs s ds (d ∷ ds) heavy (ap (λ ns. ns ++ ds) is ∙ ap (λ n. n ∷ ds) same) (again ds rest)
