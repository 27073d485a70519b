-- What stands at the front of a stream: the cases, and the laws of whole frames, of faults that stay, and of frames that are still to come.
use Rattle.std.proofs.Common.{◌≡◌, ◌≢◌, ℕ, ◌+◌, ◌<◌, ◌≤◌, List, [], ◌∷◌, ◌++◌, length, take, drop, Option, Some, None, Result, Ok, Err, refl, sym, ap, subst, ◌∙◌, append_assoc, arith, inl, inr, ◌⊎◌}
use Rattle.std.specs.List.{flat_map, AllByRecursion}
use Rattle.std.proofs.lemmas.Bool.{cases_lt, lt-ltb, le-ltb}
use Rattle.std.proofs.lemmas.List.{take_at, length-append, length-take, take-append-drop, take-append-le, append_cancel_left}
use Rattle.transfer_frames.specs.declared.frame.Frame.{Frame}
use Rattle.std.specs.Prelude.{IsSome}
use Rattle.transfer_frames.specs.declared.cause.FrameCause.{FrameCause}
use Rattle.transfer_frames.specs.declared.cause.DecodeFault.{DecodeFault}
use Rattle.transfer_frames.specs.declared.cause.DecodeFault.TheVariants as faults
use Rattle.transfer_frames.specs.Numbers.{word_of, IsBytes}
use Rattle.transfer_frames.specs.Grammar.{first_word, padded, spelling, IsFrame, Spells}
use Rattle.transfer_frames.specs.Faults.{frame_length, word_fault, first_fault}
use Rattle.transfer_frames.specs.Front.{frame_in, unless, front, Reads, Answers, IsWhole}
use Rattle.transfer_frames.specs.Laws.{NoFrame}
use Rattle.transfer_frames.proofs.NumberLaws.{word_of-take, IsBytes-take}
use Rattle.transfer_frames.proofs.FrameLaws.{word_passes, found, spelled_word, spelled_alone, spelled_size, spelled_word_fault, length-spelling, spelled_no_fault, spelled_frame}

-- ---- the four cases

pub front-short : (bytes : List ℕ) → length bytes < 4 → front bytes ≡ Ok None
unfolding front
front-short bytes lt = rw (lt-ltb (length bytes) 4 lt) refl

pub front-bad_word : (bytes : List ℕ) (cause : FrameCause) → 4 ≤ length bytes → word_fault (word_of bytes) ≡ Some cause → front bytes ≡ Err cause
unfolding front
front-bad_word bytes cause le bad = rw (le-ltb (length bytes) 4 le, bad) refl

pub front-waits : (bytes : List ℕ) → 4 ≤ length bytes → word_fault (word_of bytes) ≡ None → length bytes < frame_length (word_of bytes) → front bytes ≡ Ok None
unfolding front
front-waits bytes le none lt = rw (le-ltb (length bytes) 4 le, none, lt-ltb (length bytes) (frame_length (word_of bytes)) lt) refl

pub front-whole : (bytes : List ℕ) → 4 ≤ length bytes → word_fault (word_of bytes) ≡ None → frame_length (word_of bytes) ≤ length bytes
    → front bytes ≡ unless (first_fault (take (frame_length (word_of bytes)) bytes)) (Ok (frame_in (take (frame_length (word_of bytes)) bytes)))
unfolding front
front-whole bytes le none whole = rw (le-ltb (length bytes) 4 le, none, le-ltb (length bytes) (frame_length (word_of bytes)) whole) refl

pub least_length : (word : ℕ) → word_fault word ≡ None → 4 ≤ frame_length word
least_length word none = let w = word_passes word none in omega (arith, w.least)

-- the whole frame has the same first word
pub word_of-whole : (bytes : List ℕ) → word_fault (word_of bytes) ≡ None → word_of (take (frame_length (word_of bytes)) bytes) ≡ word_of bytes
word_of-whole bytes none = word_of-take (frame_length (word_of bytes)) bytes (least_length (word_of bytes) none)

is_whole : (read : Option Frame) → IsSome read → IsWhole (Ok read)
is_whole (Some frame) some = tt
is_whole None some = absurd cc

-- what a reader of the whole frame says of the front
pub fault_at_front : (fault : DecodeFault) (cause : Option FrameCause) (read : Option Frame) (seen : Result (Option Frame) FrameCause) → Reads (Err fault) cause read → seen ≡ unless cause (Ok read) → Answers (Err fault) seen
fault_at_front (faults.Frame c) cause read seen r e = e ∙ ap (λ (x : Option FrameCause). unless x (Ok read)) r
fault_at_front faults.Memory cause read seen r e = subst IsWhole (sym (e ∙ ap (λ (x : Option FrameCause). unless x (Ok read)) r.0)) (is_whole read r.1)

pub ruleset fronts = (front-short, front-bad_word, front-waits, front-whole, word_of-whole)

-- ---- whole frames

pub front-spelled : (frame : Frame) (more : List ℕ) → IsFrame frame → front (spelling frame ++ more) ≡ Ok (Some frame)
front-spelled frame more h =
    let bytes : List ℕ = spelling frame ++ more in
    let word : word_of (spelling frame ++ more) ≡ first_word frame = spelled_word frame more h in
    let none : word_fault (word_of (spelling frame ++ more)) ≡ None = ap word_fault word ∙ spelled_word_fault frame h in
    let len : frame_length (word_of (spelling frame ++ more)) ≡ length (spelling frame) = ap frame_length word ∙ ap padded (spelled_size frame) ∙ sym (length-spelling frame) in
    let whole : take (frame_length (word_of (spelling frame ++ more))) (spelling frame ++ more) ≡ spelling frame = take_at (spelling frame) more _ (sym len) in
    let all : length (spelling frame ++ more) ≡ length (spelling frame) + length more = length-append (spelling frame) more in
    let least : 4 ≤ frame_length (word_of (spelling frame ++ more)) = least_length _ none in
    front-whole bytes (omega arith) none (omega arith)
    ∙ ap (λ (x : List ℕ). unless (first_fault x) (Ok (frame_in x))) whole
    ∙ ap (λ (x : Option FrameCause). unless x (Ok (frame_in (spelling frame)))) (spelled_no_fault frame h)
    ∙ ap (λ (x : Option Frame). Ok x) (spelled_frame frame h)

seen_whole : (fault : Option FrameCause) (read : Option Frame) (frame : Frame) → unless fault (Ok read) ≡ Ok (Some frame) → (fault ≡ None) × (read ≡ Some frame)
seen_whole None read frame e = (refl, cc)
seen_whole (Some cause) read frame e = absurd cc

-- what is known of bytes whose first word is there and without a fault
at_whole : (bytes : List ℕ) (frame : Frame) → IsBytes bytes → 4 ≤ length bytes → word_fault (word_of bytes) ≡ None → frame_length (word_of bytes) ≤ length bytes
    → front bytes ≡ Ok (Some frame) → IsFrame frame × ((more : List ℕ) × (bytes ≡ spelling frame ++ more))
at_whole bytes frame fits le none whole e =
    let n : ℕ = frame_length (word_of bytes) in
    let first : List ℕ = take (frame_length (word_of bytes)) bytes in
    let seen = seen_whole (first_fault (take (frame_length (word_of bytes)) bytes)) (frame_in (take (frame_length (word_of bytes)) bytes)) frame (sym (front-whole bytes le none whole) ∙ e) in
    let len : length (take (frame_length (word_of bytes)) bytes) ≡ frame_length (word_of (take (frame_length (word_of bytes)) bytes)) = omega (arith, length-take (frame_length (word_of bytes)) bytes, ap frame_length (word_of-whole bytes none)) in
    let f = found (take (frame_length (word_of bytes)) bytes) (IsBytes-take (frame_length (word_of bytes)) bytes fits) len seen.0 in
    let both : Some f.frame ≡ Some frame = sym f.read ∙ seen.1 in
    let same : f.frame ≡ frame = cc in
    let spelled : Spells frame (take (frame_length (word_of bytes)) bytes) = subst (λ (x : Frame). Spells x (take (frame_length (word_of bytes)) bytes)) same f.spelled in
    (spelled.0, (drop n bytes, sym (take-append-drop n bytes) ∙ ap (λ (x : List ℕ). x ++ drop n bytes) spelled.1))

-- a result that isn't two things at once
apart : (r : Result (Option Frame) FrameCause) (frame : Frame) → r ≡ Ok None → r ≡ Ok (Some frame) → ⊥
apart r frame a b = cc

apart_err : (r : Result (Option Frame) FrameCause) (frame : Frame) (cause : FrameCause) → r ≡ Err cause → r ≡ Ok (Some frame) → ⊥
apart_err r frame cause a b = cc

pub front-is_frame : (bytes : List ℕ) (frame : Frame) → IsBytes bytes → front bytes ≡ Ok (Some frame) → IsFrame frame × ((more : List ℕ) × (bytes ≡ spelling frame ++ more))
front-is_frame bytes frame fits e =
    elim (cases_lt (length bytes) 4) [
      | inl lt ↦ absurd (apart (front bytes) frame (front-short bytes lt) e)
      | inr le ↦ by_fault le (word_fault (word_of bytes)) refl
    ]
  where
    by_length : 4 ≤ length bytes → word_fault (word_of bytes) ≡ None → (length bytes < frame_length (word_of bytes)) ⊎ (frame_length (word_of bytes) ≤ length bytes) → IsFrame frame × ((more : List ℕ) × (bytes ≡ spelling frame ++ more))
    by_length le none (inl lt) = absurd (apart (front bytes) frame (front-waits bytes le none lt) e)
    by_length le none (inr whole) = at_whole bytes frame fits le none whole e

    by_fault : 4 ≤ length bytes → (fault : Option FrameCause) → word_fault (word_of bytes) ≡ fault → IsFrame frame × ((more : List ℕ) × (bytes ≡ spelling frame ++ more))
    by_fault le None none = by_length le none (cases_lt (length bytes) (frame_length (word_of bytes)))
    by_fault le (Some cause) bad = absurd (apart_err (front bytes) frame cause (front-bad_word bytes cause le bad) e)

-- ---- what comes behind

pub word_of-append : (bytes more : List ℕ) → 4 ≤ length bytes → word_of (bytes ++ more) ≡ word_of bytes
word_of-append bytes more le =
    sym (word_of-take 4 (bytes ++ more) (omega arith)) ∙ ap word_of (take-append-le 4 bytes more le) ∙ word_of-take 4 bytes (omega arith)

pub front-grows : (bytes more : List ℕ) → (front bytes ≡ Ok None → ⊥) → front (bytes ++ more) ≡ front bytes
front-grows bytes more there =
    elim (cases_lt (length bytes) 4) [
      | inl lt ↦ absurd (there (front-short bytes lt))
      | inr le ↦ by_fault le (word_fault (word_of bytes)) refl
    ]
  where
    by_length : 4 ≤ length bytes → word_fault (word_of bytes) ≡ None → (length bytes < frame_length (word_of bytes)) ⊎ (frame_length (word_of bytes) ≤ length bytes) → front (bytes ++ more) ≡ front bytes
    by_length le none (inl lt) = absurd (there (front-waits bytes le none lt))
    by_length le none (inr whole) =
        let same : word_of (bytes ++ more) ≡ word_of bytes = word_of-append bytes more le in
        let all : length (bytes ++ more) ≡ length bytes + length more = length-append bytes more in
        let length_same : frame_length (word_of (bytes ++ more)) ≡ frame_length (word_of bytes) = ap frame_length same in
        let first : take (frame_length (word_of (bytes ++ more))) (bytes ++ more) ≡ take (frame_length (word_of bytes)) bytes = ap (λ (n : ℕ). take n (bytes ++ more)) length_same ∙ take-append-le (frame_length (word_of bytes)) bytes more whole in
        front-whole (bytes ++ more) (omega arith) (ap word_fault same ∙ none) (omega arith)
        ∙ ap (λ (x : List ℕ). unless (first_fault x) (Ok (frame_in x))) first
        ∙ sym (front-whole bytes le none whole)

    by_fault : 4 ≤ length bytes → (fault : Option FrameCause) → word_fault (word_of bytes) ≡ fault → front (bytes ++ more) ≡ front bytes
    by_fault le None none = by_length le none (cases_lt (length bytes) (frame_length (word_of bytes)))
    by_fault le (Some cause) bad =
        front-bad_word (bytes ++ more) cause (omega (arith, length-append bytes more)) (ap word_fault (word_of-append bytes more le) ∙ bad) ∙ sym (front-bad_word bytes cause le bad)

pub fault-stays : (bytes more : List ℕ) (cause : FrameCause) → front bytes ≡ Err cause → front (bytes ++ more) ≡ Err cause
fault-stays bytes more cause e = front-grows bytes more (λ none. cc) ∙ e

-- ---- a frame that is still to come

pub front-proper : (frame : Frame) (part rest : List ℕ) → IsFrame frame → spelling frame ≡ part ++ rest → rest ≢ [] → front part ≡ Ok None
front-proper frame part rest h parts some =
    elim (cases_lt (length part) 4) [
      | inl lt ↦ front-short part lt
      | inr le ↦
          let word : word_of part ≡ first_word frame = sym (word_of-append part rest le) ∙ ap word_of (sym parts) ∙ spelled_alone frame h in
          let whole : frame_length (word_of part) ≡ length (spelling frame) = ap frame_length word ∙ ap padded (spelled_size frame) ∙ sym (length-spelling frame) in
          let both : length (spelling frame) ≡ length part + length rest = ap length parts ∙ length-append part rest in
          let more : 0 < length rest = some_length rest some in
          front-waits part le (ap word_fault word ∙ spelled_word_fault frame h) (omega arith)
    ]
  where
    some_length : (xs : List ℕ) → xs ≢ [] → 0 < length xs
    some_length [] ne = absurd (ne refl)
    some_length (x ∷ xs) ne = omega arith

-- ---- no spelling begins another

abbrev seen : Frame → Result (Option Frame) FrameCause
seen frame = Ok (Some frame)

same_seen : (f g : Frame) → seen f ≡ seen g → f ≡ g
same_seen f g e = cc

pub none_begins : (f g : Frame) (a b : List ℕ) → IsFrame f → IsFrame g → spelling f ++ a ≡ spelling g ++ b → (f ≡ g) × (a ≡ b)
none_begins f g a b f_is g_is e =
    let same : f ≡ g = same_seen f g (sym (front-spelled f a f_is) ∙ ap front e ∙ front-spelled g b g_is) in
    (same, append_cancel_left (spelling g) a b (ap (λ (x : Frame). spelling x ++ a) (sym same) ∙ e))

pub one_row : (fs gs : List Frame) (r s : List ℕ) → AllByRecursion IsFrame fs → AllByRecursion IsFrame gs → NoFrame r → NoFrame s → flat_map spelling fs ++ r ≡ flat_map spelling gs ++ s → (fs ≡ gs) × (r ≡ s)
one_row [] [] r s fs_are gs_are r_ends s_ends e = (refl, e)
one_row [] (g ∷ gs) r s fs_are gs_are r_ends s_ends e = absurd (r_ends g (flat_map spelling gs ++ s) gs_are.0 (e ∙ append_assoc (spelling g) (flat_map spelling gs) s))
one_row (f ∷ fs) [] r s fs_are gs_are r_ends s_ends e = absurd (s_ends f (flat_map spelling fs ++ r) fs_are.0 (sym e ∙ append_assoc (spelling f) (flat_map spelling fs) r))
one_row (f ∷ fs) (g ∷ gs) r s fs_are gs_are r_ends s_ends e =
    let first = none_begins f g (flat_map spelling fs ++ r) (flat_map spelling gs ++ s) fs_are.0 gs_are.0 (sym (append_assoc (spelling f) (flat_map spelling fs) r) ∙ e ∙ append_assoc (spelling g) (flat_map spelling gs) s) in
    let others = one_row fs gs r s fs_are.1 gs_are.1 r_ends s_ends first.1 in
    (ap (λ (x : Frame). x ∷ fs) first.0 ∙ ap (λ (x : List Frame). g ∷ x) others.0, others.1)
