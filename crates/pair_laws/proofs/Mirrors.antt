-- At each message received the mirrors are those of the sender's own log, and the words of its filled blocks stood.
use Rattle.std.proofs.Common.{◌≡◌, ℕ, ◌+◌, ◌/◌, suc, zero, true, List, [], ◌∷◌, ◌++◌, Option, Some, None, length, refl, sym, ap, ◌∙◌, subst, arith, append_assoc, length-append}
use Rattle.std.proofs.lemmas.Grind.{flat_map-append}
use Rattle.std.specs.List.{AllByRecursion}
use Rattle.std.specs.Option.{IsSomeAnd}
use Rattle.std.specs.Prelude.{slice_get}
use Rattle.block_intervals.specs.Sets.{has}
use Rattle.wp_outside.specs.declared.kinds.Side.{Side}
use Rattle.transfer_frames.specs.declared.frame.Frame.{Frame}
use Rattle.transfer_frames.specs.declared.frame.Frame.TheVariants.{Protocol}
use Rattle.half_model.specs.Log.{Mark, Grouped}
use Rattle.half_model.specs.Sides.{other_side}
use Rattle.half_model.specs.Story.{Sent, messages_of, messages_in, accepted_in, made_in, copies_in, copies_by}
use Rattle.half_model.proofs.Expecting.{HasOne, gives}
use Rattle.half_model.proofs.ShownLaws.{cut_alone}
use Rattle.mirror_pools.specs.Meaning.{mirror}
use Rattle.mirror_laws.specs.MessageLaws.{IsGrouped}
use Rattle.mirror_laws.specs.MirrorLaws.{mirror_behind}
use Rattle.mirror_laws.specs.StoodLaws.{Histories, AllStood, WordStood}
use Rattle.mirror_laws.proofs.Messages.{each_is_grouped}
use Rattle.mirror_laws.proofs.Stood.{words_stood, untouched_is_noted}
use Rattle.pair_laws.specs.Received.{meant_in, ReceivedAt, MirrorsAreSent}
use Rattle.pair_laws.specs.Stood.{StoodOrIs, WordsStoodThere}
use Rattle.pair_laws.proofs.Auditing.{other_hears}
use Rattle.pair_laws.proofs.Places.{get_taken, get-map}
use Rattle.pair_laws.proofs.Saying.{meant_messages}

-- ---- the frame of a message

-- a frame is PROTOCOL or has no message
data Speech (frame : Frame) : Type 0 where
  Speaks : (bytes : List ℕ) → frame ≡ Protocol bytes → Speech frame
  Silent : messages_of frame ≡ [] → Speech frame

speech : (frame : Frame) → Speech frame
speech (Protocol bytes) = Speaks bytes refl
speech _ = Silent refl

record Found (frames : List Frame) (index : ℕ) (message : List ℕ) : Type 0 where
  front : List Frame
  later : List Frame
  is : frames ≡ front ++ Protocol message ∷ later
  count : length (messages_in front) ≡ index

found_behind : (frame : Frame) (frames : List Frame) (index more : ℕ) (message : List ℕ) → length (messages_of frame) + index ≡ more → Found frames index message → Found (frame ∷ frames) more message
found_behind frame frames index more message e f = record {
  front = frame ∷ f.front;
  later = f.later;
  is = ap (λ (fs : List Frame). frame ∷ fs) f.is;
  count = omega (arith, length-append (messages_of frame) (messages_in f.front), f.count, e);
}

-- the message of an index in a row whose first frame speaks or not, where one behind it is found
found_by : (frame : Frame) (frames : List Frame) (index : ℕ) (message : List ℕ) → HasOne frame → slice_get (messages_in (frame ∷ frames)) index ≡ Some message
    → ((i : ℕ) → slice_get (messages_in frames) i ≡ Some message → Found frames i message) → Speech frame → Found (frame ∷ frames) index message
found_by frame frames index message one e more (Silent none) =
    found_behind frame frames index index message (omega (arith, ap length none)) (more index (ap (λ (ms : List (List ℕ)). slice_get (ms ++ messages_in frames) index) (sym none) ∙ e))
found_by frame frames index message one e more (Speaks bytes is) = here index refl (ap (λ (ms : List (List ℕ)). slice_get (ms ++ messages_in frames) index) (sym at) ∙ e)
  where
    at : messages_of frame ≡ bytes ∷ []
    at = ap messages_of is ∙ cut_alone bytes (subst (λ (f : Frame). HasOne f) is one)

    here : (i : ℕ) → index ≡ i → slice_get (bytes ∷ messages_in frames) index ≡ Some message → Found (frame ∷ frames) index message
    here zero n k =
        let first : Some bytes ≡ Some message = ap (slice_get (bytes ∷ messages_in frames)) (sym n) ∙ k in
        let same : bytes ≡ message = cc in
        record {
          front = [];
          later = frames;
          is = ap (λ (f : Frame). f ∷ frames) is ∙ ap (λ (bs : List ℕ). Protocol bs ∷ frames) same;
          count = sym n;
        }
    here (suc i) n k = found_behind frame frames i index message (omega (arith, ap length at, n)) (more i (ap (slice_get (bytes ∷ messages_in frames)) (sym n) ∙ k))

-- the message of an index, among frames with one message each
found : (frames : List Frame) (index : ℕ) (message : List ℕ) → AllByRecursion HasOne frames → slice_get (messages_in frames) index ≡ Some message → Found frames index message
found [] index message one e = absurd cc
found (frame ∷ frames) index message one e = found_by frame frames index message one.0 e (λ i k. found frames i message one.1 k) (speech frame)

-- ---- the mirrors at a message

front_all : {X : Type 0} (P : X → Type 0) (xs ys : List X) → AllByRecursion P (xs ++ ys) → AllByRecursion P xs
front_all P [] ys h = tt
front_all P (x ∷ xs) ys h = (h.0, front_all P xs ys h.1)

pub mirrors_are_sent : MirrorsAreSent
mirrors_are_sent side sender hearer both index message rid e =
    let reader : List Mark = both.other_law.story in
    let hears = other_hears both in
    let made_one : AllByRecursion HasOne (made_in both.one_law.story) = (gives side both.one_law.story both.one_law.log).alone in
    let one : AllByRecursion HasOne (accepted_in reader) =
    front_all HasOne (accepted_in reader) hears.rest (subst (λ (fs : List Frame). AllByRecursion HasOne fs) (sym hears.is) made_one) in
    let meant : slice_get (meant_in (other_side side) reader) index ≡ Some (message, rid) = get_taken hearer.book.trail.given (meant_in (other_side side) reader) index (message, rid) e in
    let there : slice_get (messages_in (accepted_in reader)) index ≡ Some message =
    ap (λ (ms : List (List ℕ)). slice_get ms index) (sym (meant_messages (other_side side) reader both.other_law.log))
    ∙ get-map (λ (it : Sent). it.0) (meant_in (other_side side) reader) index (message, rid) meant in
    let f : Found (accepted_in reader) index message = found (accepted_in reader) index message one there in
    let made : made_in both.one_law.story ≡ f.front ++ Protocol message ∷ (f.later ++ hears.rest) =
    sym hears.is ∙ ap (λ (fs : List Frame). fs ++ hears.rest) f.is ∙ append_assoc f.front (Protocol message ∷ f.later) hears.rest in
    let at : IsGrouped side both.one_law.story f.front message = each_is_grouped side both.one_law.story f.front message (f.later ++ hears.rest) both.one_law.log made in
    record { front = f.front; later = f.later; heard = f.is; count = f.count; at = at; mirrors = λ r. ap (mirror r) at.before }

-- ---- words that stood

some_and : {X : Type 0} (P Q : X → Type 0) (x : Option X) → ((y : X) → P y → Q y) → IsSomeAnd x P → IsSomeAnd x Q
some_and P Q None f h = h
some_and P Q (Some y) f h = f y h

pub stood_words : (histories : Histories) (side : Side) (sender hearer : List Mark) (index : ℕ) (message : List ℕ) (it : ReceivedAt side sender hearer index message)
    → AllStood histories it.at.copies → (word : ℕ) → has (word / 8) it.at.owed.pieces ≡ true
    → IsSomeAnd (mirror it.at.owed.rid it.front) (StoodOrIs histories it.at.owed it.at.copies word)
stood_words histories side sender hearer index message it all word one =
    let at = it.at in
    let stood : IsSomeAnd (mirror_behind at.earlier at.inner at.owed.rid) (WordStood histories at.owed at.copies word) =
    words_stood side at.earlier at.owed at.copies at.inner histories word at.up_to all one in
    subst (λ (m : Option (List ℕ)). IsSomeAnd m (StoodOrIs histories at.owed at.copies word)) (sym (it.mirrors at.owed.rid))
    (some_and (WordStood histories at.owed at.copies word) (StoodOrIs histories at.owed at.copies word) (mirror_behind at.earlier at.inner at.owed.rid)
    (λ bytes w. record { stood = w; untouched = untouched_is_noted histories at.owed at.copies word bytes w }) stood)

pub words_stood_there : WordsStoodThere
words_stood_there histories side sender hearer both index message rid e =
    let it : ReceivedAt side both.one_law.story both.other_law.story index message = mirrors_are_sent side sender hearer both index message rid e in
    record {
      received = it;
      before = copies_in it.at.earlier;
      after = copies_in it.at.rest;
      among = both.one_law.tells.copies ∙ ap copies_in it.at.split ∙ flat_map-append copies_by it.at.earlier (Grouped it.at.frames it.at.copies ∷ it.at.rest);
      words = stood_words histories side both.one_law.story both.other_law.story index message it;
    }
