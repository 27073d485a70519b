-- Frames that are taken in, some at a time, and what all of them mean then.
use Rattle.std.proofs.Common.{◌≡◌, ℕ, zero, suc, ◌+◌, ◌-◌, ◌<◌, ◌≤◌, ℤ, List, [], ◌∷◌, ◌++◌, length, take, drop, Bool, true, false, cond, refl, sym, ap, ◌∙◌, arith, append_assoc, length-append, Some, Ok, map, get_or}
use Rattle.std.proofs.lemmas.List.{append-nil, take_all, drop_more}
use Rattle.std.proofs.lemmas.List.Elements.{filter-append}
use Rattle.wl_wire.specs.Wire.{cut}
use Rattle.transfer_frames.specs.declared.frame.Frame.{Frame}
use Rattle.transfer_frames.specs.declared.frame.Frame.TheVariants as frames
use Rattle.transfer_frames.specs.Front.{front, Takes}
use Rattle.transfer_frames.specs.Grammar.{role}
use Rattle.pair_model.specs.Rows.{counted, is_counted}
use Rattle.mirror_pools.specs.Laws.{after_frame, after_frames}
use Rattle.half_model.specs.Story.{messages_of, messages_in}
use Rattle.trail_records.specs.declared.lines.LineRecord.{LineRecord}
use Rattle.trail_records.specs.Rows.{line_of}
use Rattle.pair_report.specs.Heard.{frames_in, counted_on}
use Rattle.pair_report.proofs.FrameRows.{frames_first, taken_long}
use Rattle.pair_report.specs.Meant.{Meant, no_meaning, with_frame, with_frames, meaning, rids_of, rids_in, with_open, opened_from, with_flow, flows_from}

-- ---- so many at a time

-- the first so many of two rows: those of the first row, and so many of the second as are left
pub taken_on : (xs ys : List Frame) (left : ℕ) (meant : Meant)
    → with_frames (take left (xs ++ ys)) meant ≡ with_frames (take (left - length xs) ys) (with_frames (take left xs) meant)
taken_on [] ys left meant =
    let same : left ≡ left - length {A = Frame} [] = omega arith in
    ap (λ (n : ℕ). with_frames (take n ys) meant) same
    ∙ ap (λ (fs : List Frame). with_frames (take (left - length {A = Frame} []) ys) (with_frames fs meant)) (sym (none left))
  where
    none : (n : ℕ) → take {A = Frame} n [] ≡ []
    none zero = refl
    none (suc n) = refl
taken_on (x ∷ xs) ys zero meant =
    let same : zero ≡ zero - length (x ∷ xs) = omega arith in
    ap (λ (n : ℕ). with_frames (take n ys) meant) same
taken_on (x ∷ xs) ys (suc left) meant =
    let same : left - length xs ≡ suc left - length (x ∷ xs) = omega arith in
    taken_on xs ys left (with_frame x meant)
    ∙ ap (λ (n : ℕ). with_frames (take n ys) (with_frames (take (suc left) (x ∷ xs)) meant)) same

-- ---- what one frame adds

-- what is meant, with further frames
abbrev pub added : List Frame → Meant → Meant
added fs meant = record {
  messages = meant.messages ++ messages_in fs;
  rids = meant.rids ++ rids_in fs;
  mirrors = after_frames fs meant.mirrors;
  opened = opened_from fs meant.opened;
  flows = flows_from fs meant.flows;
}

abbrev one_added : Frame → Meant → Meant
one_added frame meant = record {
  messages = meant.messages ++ messages_of frame;
  rids = meant.rids ++ rids_of frame;
  mirrors = after_frame frame meant.mirrors;
  opened = with_open frame meant.opened;
  flows = with_flow frame meant.flows;
}

-- without messages and without rids
abbrev with_lists : List (List ℕ) → List ℤ → Meant → Meant
with_lists messages rids meant = record meant { messages = messages; rids = rids }

no_lists : (meant next : Meant) → with_lists meant.messages meant.rids next ≡ with_lists (meant.messages ++ []) (meant.rids ++ []) next
no_lists meant next =
    ap (λ (l : List (List ℕ)). with_lists l meant.rids next) (sym (append-nil meant.messages))
    ∙ ap (λ (l : List ℤ). with_lists (meant.messages ++ []) l next) (sym (append-nil meant.rids))

no_rids : (meant next : Meant) (messages : List (List ℕ)) → with_lists messages meant.rids next ≡ with_lists messages (meant.rids ++ []) next
no_rids meant next messages = ap (λ (l : List ℤ). with_lists messages l next) (sym (append-nil meant.rids))

no_messages : (meant next : Meant) (rids : List ℤ) → with_lists meant.messages rids next ≡ with_lists (meant.messages ++ []) rids next
no_messages meant next rids = ap (λ (l : List (List ℕ)). with_lists l rids next) (sym (append-nil meant.messages))

one : (frame : Frame) (meant : Meant) → with_frame frame meant ≡ one_added frame meant
one (frames.Protocol bytes) meant = no_rids meant meant (meant.messages ++ cut bytes)
one (frames.Inject rids) meant = no_messages meant meant (meant.rids ++ rids)
one (frames.OpenFile rid size) meant = no_lists meant (with_frame (frames.OpenFile rid size) meant)
one (frames.ExtendFile rid size) meant = no_lists meant (with_frame (frames.ExtendFile rid size) meant)
one (frames.Fill rid start end bytes) meant = no_lists meant (with_frame (frames.Fill rid start end bytes) meant)
one (frames.OpenPipe rid) meant = no_lists meant (with_frame (frames.OpenPipe rid) meant)
one (frames.PipeTransfer rid bytes) meant = no_lists meant (with_frame (frames.PipeTransfer rid bytes) meant)
one (frames.PipeShutR rid) meant = no_lists meant meant
one (frames.PipeShutW rid) meant = no_lists meant (with_frame (frames.PipeShutW rid) meant)
one (frames.Ack count) meant = no_lists meant meant
one (frames.Restart token connection received) meant = no_lists meant meant
one (frames.Close reason) meant = no_lists meant meant

added_on : (frame : Frame) (fs : List Frame) (meant : Meant) → added fs (one_added frame meant) ≡ added (frame ∷ fs) meant
added_on frame fs meant =
    ap (λ (l : List (List ℕ)). with_lists l ((meant.rids ++ rids_of frame) ++ rids_in fs) (added (frame ∷ fs) meant)) (append_assoc meant.messages (messages_of frame) (messages_in fs))
    ∙ ap (λ (l : List ℤ). with_lists (meant.messages ++ messages_in (frame ∷ fs)) l (added (frame ∷ fs) meant)) (append_assoc meant.rids (rids_of frame) (rids_in fs))

pub all_added : (fs : List Frame) (meant : Meant) → with_frames fs meant ≡ added fs meant
all_added [] meant = no_lists meant meant
all_added (frame ∷ fs) meant =
    ap (with_frames fs) (one frame meant) ∙ all_added fs (one_added frame meant) ∙ added_on frame fs meant

pub meaning_is : (fs : List Frame) → with_frames fs no_meaning ≡ meaning fs
meaning_is fs = all_added fs no_meaning

-- ---- a counted frame

pub counted_long : (frame : Frame) → length (counted (frame ∷ [])) ≤ 1
counted_long frame = by (is_counted (role frame))
  where
    by : (b : Bool) → length (cond b (frame ∷ []) []) ≤ 1
    by true = omega arith
    by false = omega arith

-- ---- the frame at the front

both_counted : (frame : Frame) (fs : List Frame) → counted (frame ∷ fs) ≡ counted (frame ∷ []) ++ counted fs
both_counted frame fs = filter-append (λ f. is_counted (role f)) (frame ∷ []) fs

first_counted : (rest : List ℕ) (frame : Frame) (count : ℕ) → front rest ≡ Ok (Some frame) → Takes rest frame count
    → counted (frames_in rest) ≡ counted (frame ∷ []) ++ counted (frames_in (drop count rest))
first_counted rest frame count e takes =
    ap counted (frames_first rest frame count e (taken_long rest frame count takes)) ∙ both_counted frame (frames_in (drop count rest))

-- it is taken in, and the frames that are left complete the meaning as before
pub one_taken : (rest : List ℕ) (frame : Frame) (count left n : ℕ) (meant next : Meant) → 0 < left
    → front rest ≡ Ok (Some frame) → Takes rest frame count
    → next ≡ with_frames (counted (frame ∷ [])) meant → n ≡ length (counted (frame ∷ []))
    → with_frames (take (left - n) (counted (frames_in (drop count rest)))) next ≡ with_frames (take left (counted (frames_in rest))) meant
one_taken rest frame count left n meant next some e takes is many =
    let xs : List Frame = counted (frame ∷ []) in
    let ys : List Frame = counted (frames_in (drop count rest)) in
    let all : take left xs ≡ xs = take_all left xs (omega (arith, counted_long frame, some)) in
    ap (λ (m : ℕ). with_frames (take (left - m) ys) next) many
    ∙ ap (with_frames (take (left - length xs) ys)) is
    ∙ ap (λ (fs : List Frame). with_frames (take (left - length xs) ys) (with_frames fs meant)) (sym all)
    ∙ sym (taken_on xs ys left meant)
    ∙ ap (λ (fs : List Frame). with_frames (take left fs) meant) (sym (first_counted rest frame count e takes))

pub one_left : (rest : List ℕ) (frame : Frame) (count left n : ℕ) → front rest ≡ Ok (Some frame) → Takes rest frame count → n ≡ length (counted (frame ∷ []))
    → (left - n) - length (counted (frames_in (drop count rest))) ≡ left - length (counted (frames_in rest))
one_left rest frame count left n e takes many =
    let whole : length (counted (frames_in rest)) ≡ length (counted (frame ∷ [])) + length (counted (frames_in (drop count rest))) =
    ap length (first_counted rest frame count e takes) ∙ length-append (counted (frame ∷ [])) (counted (frames_in (drop count rest))) in
    omega (arith, whole, many)

-- no frame is left
pub none_taken : (rest : List ℕ) (left : ℕ) (meant : Meant) → frames_in rest ≡ [] → with_frames (take left (counted (frames_in rest))) meant ≡ meant
none_taken rest zero meant none = refl
none_taken rest (suc left) meant none = ap (λ (fs : List Frame). with_frames (take (suc left) (counted fs)) meant) none

pub none_left : (rest : List ℕ) (left : ℕ) → frames_in rest ≡ [] → left - length (counted (frames_in rest)) ≡ left
none_left rest left none = omega (arith, ap (λ (fs : List Frame). length (counted fs)) none)

-- ---- the lines

-- the frames of one more line are taken in, and those of the lines that are left complete the meaning as before
pub lines_taken : (lines : List LineRecord) (i : ℕ) (line : LineRecord) (read : List ℕ) (left less : ℕ) (meant next : Meant)
    → i < length lines → line ≡ get_or lines i line → read ≡ line.read
    → next ≡ with_frames (take left (counted (frames_in read))) meant → less ≡ left - length (counted (frames_in read))
    → with_frames (take less (counted_on (map line_of (drop (i + 1) lines)))) next
    ≡ with_frames (take left (counted_on (map line_of (drop i lines)))) meant
lines_taken lines i line read left less meant next within at is taken many =
    let rest : List Frame = counted_on (map line_of (drop (i + 1) lines)) in
    let first : List Frame = counted (frames_in read) in
    let row : drop i lines ≡ line ∷ drop (i + 1) lines =
    drop_more lines i line within ∙ ap (λ (l : LineRecord). l ∷ drop (i + 1) lines) (sym at) in
    ap (λ (m : ℕ). with_frames (take m rest) next) many
    ∙ ap (with_frames (take (left - length first) rest)) taken
    ∙ sym (taken_on first rest left meant)
    ∙ ap (λ (bytes : List ℕ). with_frames (take left (counted (frames_in bytes) ++ rest)) meant) is
    ∙ sym (ap (λ (ls : List LineRecord). with_frames (take left (counted_on (map line_of ls))) meant) row)
