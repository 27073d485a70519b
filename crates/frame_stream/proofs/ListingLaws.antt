-- Listings of streams: the lines of one frame more, the end of a listing, and that each stream has just one.
use Rattle.std.proofs.Common.{◌≡◌, ℕ, zero, suc, ◌+◌, ◌-◌, ◌<◌, ◌≤◌, List, [], ◌∷◌, ◌++◌, length, take, drop, Option, Some, None, Result, Ok, Err, refl, sym, ap, subst, ◌∙◌, append_assoc, zero-add, add-zero, length-append, arith}
use Rattle.std.specs.List.{flat_map, AllByRecursion}
use Rattle.std.proofs.Math.Seq.{take-add}
use Rattle.std.proofs.lemmas.Grind.{flat_map-append}
use Rattle.std.proofs.lemmas.List.{append-nil, take_at, length-take-le, length-drop, take-append-drop}
use Rattle.transfer_frames.specs.declared.frame.Frame.{Frame}
use Rattle.transfer_frames.specs.declared.cause.FrameCause.{FrameCause}
use Rattle.transfer_frames.specs.Numbers.{IsBytes}
use Rattle.transfer_frames.specs.Grammar.{IsFrame, spelling}
use Rattle.transfer_frames.specs.Front.{front, Takes}
use Rattle.transfer_frames.specs.FrameLines.{line}
use Rattle.transfer_frames.specs.Laws.{NoFrame}
use Rattle.transfer_frames.proofs.NumberLaws.{IsBytes-drop}
use Rattle.transfer_frames.proofs.FrontLaws.{front-spelled, front-is_frame, one_row}
use Rattle.transfer_frames.proofs.FrameLaws.{length-spelling}
use Rattle.frame_stream.specs.declared.listing.StreamEnd.{StreamEnd}
use Rattle.frame_stream.specs.declared.listing.StreamEnd.TheVariants.{Rest, Fault}
use Rattle.frame_stream.specs.declared.listing.Listing.{Listing}
use Rattle.frame_stream.specs.Listing.{Lists, text_of, EndsSo, IsListing}

-- ---- what has been listed so far

-- the bytes before a place are whole frames, and the text is their lines
pub record Listed (bytes : List ℕ) (place : ℕ) (text : List ℕ) : Type 0 where
  pub frames : List Frame
  pub whole : AllByRecursion IsFrame frames
  pub before : take place bytes ≡ flat_map spelling frames
  pub fits : place ≤ length bytes
  pub lines : text ≡ text_of 0 frames

pub listed-none : (bytes : List ℕ) → Listed bytes 0 []
listed-none bytes = record { frames = []; whole = tt; before = refl; fits = omega arith; lines = refl }

-- the line of one frame, with the byte that ends it
abbrev pub ended : ℕ → Frame → List ℕ
ended place frame = line place frame ++ (10 ∷ [])

text-more : (place : ℕ) (frames : List Frame) (frame : Frame) → text_of place (frames ++ (frame ∷ [])) ≡ text_of place frames ++ ended (place + length (flat_map spelling frames)) frame
text-more place [] frame = ap (λ (n : ℕ). ended n frame) (sym (add-zero place))
text-more place (first ∷ frames) frame =
    let count : place + length (spelling first) + length (flat_map spelling frames) ≡ place + length (spelling first ++ flat_map spelling frames) = omega (arith, length-append (spelling first) (flat_map spelling frames)) in
    ap (λ (x : List ℕ). line place first ++ (10 ∷ x)) (text-more (place + length (spelling first)) frames frame ∙ ap (λ (n : ℕ). text_of (place + length (spelling first)) frames ++ ended n frame) count)
    ∙ sym (append_assoc (line place first) (10 ∷ text_of (place + length (spelling first)) frames) (ended (place + length (spelling first ++ flat_map spelling frames)) frame))

all-more : (frames : List Frame) (frame : Frame) → AllByRecursion IsFrame frames → IsFrame frame → AllByRecursion IsFrame (frames ++ (frame ∷ []))
all-more [] frame are is = (is, tt)
all-more (first ∷ frames) frame are is = (are.0, all-more frames frame are.1 is)

-- how many bytes the frames before a place take
pub listed-length : (bytes : List ℕ) (place : ℕ) (frames : List Frame) → take place bytes ≡ flat_map spelling frames → place ≤ length bytes → length (flat_map spelling frames) ≡ place
listed-length bytes place frames before fits = ap length (sym before) ∙ length-take-le place bytes fits

pub listed-more : (bytes : List ℕ) (place : ℕ) (text : List ℕ) (frame : Frame) (count : ℕ) → Listed bytes place text → Takes (drop place bytes) frame count
    → Listed bytes (place + count) (text ++ ended place frame)
listed-more bytes place text frame count so_far takes =
    let many : length (flat_map spelling so_far.frames) ≡ place = listed-length bytes place so_far.frames so_far.before so_far.fits in
    record {
      frames = so_far.frames ++ (frame ∷ []);
      whole = all-more so_far.frames frame so_far.whole takes.0;
      before =
          take-add place count bytes
          ∙ ap (λ (x : List ℕ). x ++ take count (drop place bytes)) so_far.before
          ∙ ap (λ (x : List ℕ). flat_map spelling so_far.frames ++ x) (takes.2 ∙ sym (append-nil (spelling frame)))
          ∙ sym (flat_map-append spelling so_far.frames (frame ∷ []));
      fits = omega (arith, so_far.fits, takes.1, length-drop place bytes);
      lines =
          ap (λ (x : List ℕ). x ++ ended place frame) so_far.lines
          ∙ ap (λ (n : ℕ). text_of 0 so_far.frames ++ ended n frame) (sym many ∙ sym (zero-add (length (flat_map spelling so_far.frames))))
          ∙ sym (text-more 0 so_far.frames frame);
    }

-- a frame that is taken makes the rest shorter
pub shorter : (bytes : List ℕ) (place : ℕ) (frame : Frame) (count : ℕ) → Takes (drop place bytes) frame count → length bytes - (place + count) < length bytes - place
shorter bytes place frame count takes =
    let all : count ≡ length (spelling frame) = sym (length-take-le count (drop place bytes) takes.1) ∙ ap length takes.2 in
    omega (arith, all, length-spelling frame, takes.1, length-drop place bytes)

-- ---- where a listing ends

apart : (read : Result (Option Frame) FrameCause) (frame : Frame) → read ≡ Ok None → read ≡ Ok (Some frame) → ⊥
apart read frame a b = cc

apart_fault : (read : Result (Option Frame) FrameCause) (cause : FrameCause) (frame : Frame) → read ≡ Err cause → read ≡ Ok (Some frame) → ⊥
apart_fault read cause frame a b = cc

pub no_frame : (stream_end : StreamEnd) (frames : List Frame) (rest : List ℕ) → EndsSo stream_end frames rest → NoFrame rest
no_frame (Rest count) frames rest ends frame more is parts = apart (front rest) frame ends.0 (ap front parts ∙ front-spelled frame more is)
no_frame (Fault place cause) frames rest ends frame more is parts = apart_fault (front rest) cause frame ends.0 (ap front parts ∙ front-spelled frame more is)

listed-end : (bytes : List ℕ) (place : ℕ) (text : List ℕ) (stream_end : StreamEnd) → (so_far : Listed bytes place text) → EndsSo stream_end so_far.frames (drop place bytes)
    → IsListing bytes (record { lines = text; stream_end = stream_end })
listed-end bytes place text stream_end so_far ends =
    record {
      frames = so_far.frames;
      rest = drop place bytes;
      lists = record {
        whole = so_far.whole;
        joined = sym (take-append-drop place bytes) ∙ ap (λ (x : List ℕ). x ++ drop place bytes) so_far.before;
        stops = no_frame stream_end so_far.frames (drop place bytes) ends;
      };
      lines = so_far.lines;
      ends = ends;
    }

pub listed-rest : (bytes : List ℕ) (place : ℕ) (text : List ℕ) (count : ℕ) → Listed bytes place text → front (drop place bytes) ≡ Ok None → count ≡ length (drop place bytes)
    → IsListing bytes (record { lines = text; stream_end = Rest count })
listed-rest bytes place text count so_far none many = listed-end bytes place text (Rest count) so_far (none, many)

pub listed-fault : (bytes : List ℕ) (place : ℕ) (text : List ℕ) (cause : FrameCause) → Listed bytes place text → front (drop place bytes) ≡ Err cause
    → IsListing bytes (record { lines = text; stream_end = Fault place cause })
listed-fault bytes place text cause so_far fault = listed-end bytes place text (Fault place cause) so_far (fault, sym (listed-length bytes place so_far.frames so_far.before so_far.fits))

-- ---- one listing for each stream

pub listed_once : (bytes : List ℕ) (fs gs : List Frame) (r s : List ℕ) → Lists bytes fs r → Lists bytes gs s → (fs ≡ gs) × (r ≡ s)
listed_once bytes fs gs r s a b = one_row fs gs r s a.whole b.whole a.stops b.stops (sym a.joined ∙ b.joined)

same_end : (a b : StreamEnd) (frames : List Frame) (rest : List ℕ) → EndsSo a frames rest → EndsSo b frames rest → a ≡ b
same_end (Rest m) (Rest n) frames rest a b = ap (λ (x : ℕ). Rest x) (a.1 ∙ sym b.1)
same_end (Rest m) (Fault place cause) frames rest a b = absurd cc
same_end (Fault place cause) (Rest n) frames rest a b = absurd cc
same_end (Fault p c) (Fault q d) frames rest a b =
    let same : c ≡ d = same_cause c d (sym a.0 ∙ b.0) in
    ap (λ (x : ℕ). Fault x c) (a.1 ∙ sym b.1) ∙ ap (λ (x : FrameCause). Fault q x) same
  where
    same_cause : (c d : FrameCause) → ◌≡◌ {A = Result (Option Frame) FrameCause} (Err c) (Err d) → c ≡ d
    same_cause c d e = cc

abbrev listing_of : List ℕ → StreamEnd → Listing
listing_of lines stream_end = record { lines = lines; stream_end = stream_end }

pub one_listing : (bytes : List ℕ) (a b : Listing) → IsListing bytes a → IsListing bytes b → a ≡ b
one_listing bytes a b is_a is_b =
    let same = listed_once bytes is_a.frames is_b.frames is_a.rest is_b.rest is_a.lists is_b.lists in
    let lines : a.lines ≡ b.lines = is_a.lines ∙ ap (λ (x : List Frame). text_of 0 x) same.0 ∙ sym is_b.lines in
    let ends : EndsSo a.stream_end is_b.frames is_b.rest = subst (λ (x : List ℕ). EndsSo a.stream_end is_b.frames x) same.1 (subst (λ (x : List Frame). EndsSo a.stream_end x is_a.rest) same.0 is_a.ends) in
    ap (λ (x : List ℕ). listing_of x a.stream_end) lines ∙ ap (λ (x : StreamEnd). listing_of b.lines x) (same_end a.stream_end b.stream_end is_b.frames is_b.rest ends is_b.ends)

-- a frame at the front, as it is taken
takes_front : (bytes : List ℕ) (frame : Frame) (more : List ℕ) → IsFrame frame → bytes ≡ spelling frame ++ more → Takes bytes frame (length (spelling frame))
takes_front bytes frame more is parts =
    (is, omega (arith, ap length parts, length-append (spelling frame) more), ap (take (length (spelling frame))) parts ∙ take_at (spelling frame) more (length (spelling frame)) refl)

abbrev HasListing : List ℕ → Type 0
HasListing bytes = (listing : Listing) × IsListing bytes listing

-- one step from a place on, where there is a listing behind each further frame
step : (bytes : List ℕ) (place : ℕ) (text : List ℕ) → IsBytes bytes → Listed bytes place text
    → ((count : ℕ) (longer : List ℕ) → 4 ≤ count → Listed bytes (place + count) longer → HasListing bytes)
    → (read : Result (Option Frame) FrameCause) → front (drop place bytes) ≡ read → HasListing bytes
step bytes place text fits so_far behind (Err cause) fault = (listing_of text (Fault place cause), listed-fault bytes place text cause so_far fault)
step bytes place text fits so_far behind (Ok None) none = (listing_of text (Rest (length (drop place bytes))), listed-rest bytes place text (length (drop place bytes)) so_far none refl)
step bytes place text fits so_far behind (Ok (Some frame)) found =
    let there = front-is_frame (drop place bytes) frame (IsBytes-drop place bytes fits) found in
    behind (length (spelling frame)) (text ++ ended place frame) (omega (arith, length-spelling frame))
    (listed-more bytes place text frame (length (spelling frame)) so_far (takes_front (drop place bytes) frame there.1.0 there.0 there.1.1))

listed_from : (fuel : ℕ) (bytes : List ℕ) (place : ℕ) (text : List ℕ) → length bytes ≤ place + fuel → IsBytes bytes → Listed bytes place text → HasListing bytes
listed_from zero bytes place text enough fits so_far =
    step bytes place text fits so_far (λ count longer least next. absurd (omega (arith, next.fits, enough, least))) (front (drop place bytes)) refl
listed_from (suc fuel) bytes place text enough fits so_far =
    step bytes place text fits so_far (λ count longer least next. listed_from fuel bytes (place + count) longer (omega (arith, enough, least)) fits next) (front (drop place bytes)) refl

pub some_listing : (bytes : List ℕ) → IsBytes bytes → (listing : Listing) × IsListing bytes listing
some_listing bytes fits = listed_from (length bytes) bytes 0 [] (omega arith) fits (listed-none bytes)
