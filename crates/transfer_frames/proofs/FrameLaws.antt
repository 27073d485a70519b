-- The two laws of the grammar: a spelled frame has no fault and is seen whole, and bytes without a fault are a frame's spelling.
use Rattle.std.proofs.Common.{◌≡◌, ℕ, zero, suc, ◌+◌, ◌-◌, ◌^◌, ◌<◌, ◌≤◌, ◌==◌, Bool, true, false, not, cond, eqb, nat_lt, List, [], ◌∷◌, ◌++◌, length, take, drop, replicate, Option, Some, None, refl, sym, ap, ◌∙◌, append_assoc, arith}
use Rattle.std.specs.Prelude.{is_none}
use Rattle.std.specs.List.{list_all}
use Rattle.std.proofs.lemmas.Bool.{eqb-true, le-ltb, ltb-false, not-false, and_parts}
use Rattle.std.proofs.lemmas.List.{take_at, drop_at, length-append, length-take, length-drop, length-replicate, take-append-drop, drop-append-le}
use Rattle.std.proofs.lemmas.Nat.{div-mul-add, mod-mul-add}
use Rattle.transfer_frames.specs.declared.frame.TheConstants.{LARGEST_FRAME}
use Rattle.transfer_frames.specs.declared.frame.Frame.{Frame}
use Rattle.transfer_frames.specs.declared.cause.FrameCause.{FrameCause}
use Rattle.transfer_frames.specs.declared.cause.FrameCause.TheVariants as causes
use Rattle.transfer_frames.specs.declared.kinds.FrameType.{FrameType}
use Rattle.transfer_frames.specs.declared.kinds.FrameType.TheVariants.{Protocol, Inject, OpenFile, ExtendFile, Fill, OpenPipe, PipeTransfer, PipeShutR, PipeShutW, Ack, Restart, Close}
use Rattle.transfer_frames.specs.Numbers.{word_bytes, word_of, IsBytes}
use Rattle.transfer_frames.specs.Grammar.{type_number, type_at, type_of, body, body_length, size, first_word, padded, padding, spelling, IsFrame, Spells}
use Rattle.transfer_frames.specs.Faults.{size_in, type_in, frame_length, word_fault, has_length, has_zero_rid, has_range, has_messages, body_fault, body_in, padding_in, or_else, rest_fault, first_fault}
use Rattle.transfer_frames.specs.Front.{value, value_of, frame_in}
use Rattle.transfer_frames.proofs.NumberLaws.{IsBytes-drop, IsBytes-take, length-word_bytes, word_of-word_bytes, word_parts}
use Rattle.transfer_frames.proofs.BodyLaws.{body_length_is, value-body, length-body, rids-body, range-body, messages-body, type_of-value, body-value, Passes, fields-value}

-- ---- types and their numbers

number-below : (t : FrameType) → type_number t ≤ 18
number-below Protocol = omega arith
number-below Inject = omega arith
number-below OpenFile = omega arith
number-below ExtendFile = omega arith
number-below Fill = omega arith
number-below OpenPipe = omega arith
number-below PipeTransfer = omega arith
number-below PipeShutR = omega arith
number-below PipeShutW = omega arith
number-below Ack = omega arith
number-below Restart = omega arith
number-below Close = omega arith

pub type_at-number : (t : FrameType) → type_at (type_number t) ≡ Some t
unfolding type_at
type_at-number Protocol = refl
type_at-number Inject = refl
type_at-number OpenFile = refl
type_at-number ExtendFile = refl
type_at-number Fill = refl
type_at-number OpenPipe = refl
type_at-number PipeTransfer = refl
type_at-number PipeShutR = refl
type_at-number PipeShutW = refl
type_at-number Ack = refl
type_at-number Restart = refl
type_at-number Close = refl

-- one row of the table
row : (n k : ℕ) (t u : FrameType) (o : Option FrameType) → type_number u ≡ k → cond (eqb n k) (Some u) o ≡ Some t → (o ≡ Some t → n ≡ type_number t) → n ≡ type_number t
row n k t u o number e rest = by_test (eqb n k) refl e
  where
    by_test : (b : Bool) → eqb n k ≡ b → cond b (Some u) o ≡ Some t → n ≡ type_number t
    by_test true h e = let same : u ≡ t = cc in eqb-true n k h ∙ sym number ∙ ap type_number same
    by_test false h e = rest e

pub number-type_at : (n : ℕ) (t : FrameType) → type_at n ≡ Some t → n ≡ type_number t
unfolding type_at
number-type_at n t e =
    row n 0 t Protocol _ refl e (λ e. row n 1 t Inject _ refl e (λ e. row n 2 t OpenFile _ refl e (λ e. row n 3 t ExtendFile _ refl e (λ e.
    row n 5 t Fill _ refl e (λ e. row n 8 t OpenPipe _ refl e (λ e. row n 10 t PipeTransfer _ refl e (λ e. row n 11 t PipeShutR _ refl e (λ e.
    row n 12 t PipeShutW _ refl e (λ e. row n 16 t Ack _ refl e (λ e. row n 17 t Restart _ refl e (λ e. row n 18 t Close _ refl e (λ e. absurd cc))))))))))))

-- ---- tests in order

passed : (b : Bool) (cause : FrameCause) (others : Option FrameCause) → cond b (Some cause) others ≡ None → (b ≡ false) × (others ≡ None)
passed true cause others e = absurd cc
passed false cause others e = (refl, e)

some_from_test : (o : Option FrameType) → is_none o ≡ false → (t : FrameType) × (o ≡ Some t)
some_from_test None e = absurd cc
some_from_test (Some t) e = (t, refl)

pub both_none : (a b : Option FrameCause) → or_else a b ≡ None → (a ≡ None) × (b ≡ None)
both_none None b e = (refl, e)
both_none (Some c) b e = absurd cc

-- what a first word without a fault shows
pub record WordPasses (word : ℕ) : Type 0 where
  pub least : 4 ≤ size_in word
  pub most : size_in word ≤ LARGEST_FRAME
  pub type : FrameType
  pub named : type_at (type_in word) ≡ Some type

pub word_passes : (word : ℕ) → word_fault word ≡ None → WordPasses word
unfolding word_fault
word_passes word e =
    let a = passed (nat_lt (size_in word) 4) causes.SizeSmall _ e in
    let b = passed (nat_lt LARGEST_FRAME (size_in word)) causes.SizeLarge _ a.1 in
    let c = passed (nat_lt 18 (type_in word)) causes.UnknownType _ b.1 in
    let d = passed (is_none (type_at (type_in word))) (causes.LeftOut (type_in word)) _ c.1 in
    let t = some_from_test (type_at (type_in word)) d.0 in
    record { least = ltb-false _ _ a.0; most = ltb-false _ _ b.0; type = t.0; named = t.1 }

pub body_passes : (t : FrameType) (bytes zeros : List ℕ) → body_fault t bytes zeros ≡ None → Passes t bytes × (list_all (λ b. b == 0) zeros ≡ true)
unfolding body_fault
body_passes t bytes zeros e =
    let a = passed (not (has_length t (length bytes))) causes.BodyLength _ e in
    let b = passed (not (list_all (λ b. b == 0) zeros)) causes.Padding _ a.1 in
    let c = passed (has_zero_rid t bytes) causes.RidZero _ b.1 in
    let d = passed (not (has_range t bytes)) causes.FillRange _ c.1 in
    let f = passed (not (has_messages t bytes)) causes.MessageCut _ d.1 in
    (record { long = not-false _ a.0; rids = c.0; range = not-false _ d.0; messages = not-false _ f.0 }, not-false _ b.0)

-- ---- zeros

zeros_are : (n : ℕ) → list_all (λ b. b == 0) (replicate n 0) ≡ true
zeros_are zero = refl
zeros_are (suc n) = zeros_are n

zeros_from : (bytes : List ℕ) → list_all (λ b. b == 0) bytes ≡ true → bytes ≡ replicate (length bytes) 0
zeros_from [] e = refl
zeros_from (b ∷ bytes) e =
    let parts = and_parts (b == 0) (list_all (λ b. b == 0) bytes) e in
    ap (λ (x : ℕ). x ∷ bytes) (eqb-true b 0 parts.0) ∙ ap (λ (x : List ℕ). 0 ∷ x) (zeros_from bytes parts.1)

-- ---- what is spelled is seen whole

word_fits : (frame : Frame) → IsFrame frame → first_word frame < 2 ^ 32
word_fits frame h = omega (arith, h.fits, number-below (type_of frame))

pub spelled_word : (frame : Frame) (more : List ℕ) → IsFrame frame → word_of (spelling frame ++ more) ≡ first_word frame
unfolding spelling
spelled_word frame more h =
    ap word_of (append_assoc (word_bytes (first_word frame)) (body frame ++ padding frame) more) ∙ word_of-word_bytes (first_word frame) ((body frame ++ padding frame) ++ more) (word_fits frame h)

pub spelled_alone : (frame : Frame) → IsFrame frame → word_of (spelling frame) ≡ first_word frame
unfolding spelling
spelled_alone frame h = word_of-word_bytes (first_word frame) (body frame ++ padding frame) (word_fits frame h)

pub spelled_size : (frame : Frame) → size_in (first_word frame) ≡ size frame
spelled_size frame = div-mul-add (size frame) 32 (type_number (type_of frame)) (omega (arith, number-below (type_of frame)))

pub spelled_type : (frame : Frame) → type_in (first_word frame) ≡ type_number (type_of frame)
spelled_type frame = mod-mul-add (size frame) 32 (type_number (type_of frame)) (omega (arith, number-below (type_of frame)))

pub spelled_name : (frame : Frame) → type_at (type_in (first_word frame)) ≡ Some (type_of frame)
spelled_name frame = ap type_at (spelled_type frame) ∙ type_at-number (type_of frame)

pub length-spelling : (frame : Frame) → length (spelling frame) ≡ padded (size frame)
unfolding spelling
length-spelling frame =
    omega (arith, length-append (word_bytes (first_word frame)) (body frame ++ padding frame), length-append (body frame) (padding frame), length-word_bytes (first_word frame), length-replicate {A = ℕ} (padded (size frame) - size frame) 0)

-- the same by the body's length, for a frame whose fields have values that their places hold
pub spelling_length : (frame : Frame) → IsFrame frame → length (spelling frame) ≡ padded (4 + body_length frame)
spelling_length frame is = length-spelling frame ∙ ap (λ (n : ℕ). padded (4 + n)) (body_length_is frame is.fields)

spelled_body : (frame : Frame) → drop 4 (take (size frame) (spelling frame)) ≡ body frame
unfolding spelling
spelled_body frame =
    let front : length (word_bytes (first_word frame) ++ body frame) ≡ size frame = omega (arith, length-append (word_bytes (first_word frame)) (body frame), length-word_bytes (first_word frame)) in
    ap (λ (x : List ℕ). drop 4 (take (size frame) x)) (sym (append_assoc (word_bytes (first_word frame)) (body frame) (padding frame)))
    ∙ ap (drop 4) (take_at (word_bytes (first_word frame) ++ body frame) (padding frame) (size frame) front)
    ∙ drop_at (word_bytes (first_word frame)) (body frame) 4 (length-word_bytes (first_word frame))

spelled_padding : (frame : Frame) → drop (size frame) (spelling frame) ≡ padding frame
unfolding spelling
spelled_padding frame =
    let front : length (word_bytes (first_word frame) ++ body frame) ≡ size frame = omega (arith, length-append (word_bytes (first_word frame)) (body frame), length-word_bytes (first_word frame)) in
    ap (drop (size frame)) (sym (append_assoc (word_bytes (first_word frame)) (body frame) (padding frame)))
    ∙ drop_at (word_bytes (first_word frame) ++ body frame) (padding frame) (size frame) front

pub spelled_word_fault : (frame : Frame) → IsFrame frame → word_fault (first_word frame) ≡ None
unfolding word_fault
spelled_word_fault frame h =
    let least : nat_lt (size frame) 4 ≡ false = le-ltb _ _ (omega arith) in
    let most : nat_lt LARGEST_FRAME (size frame) ≡ false = le-ltb _ _ h.fits in
    let known : nat_lt 18 (type_number (type_of frame)) ≡ false = le-ltb _ _ (number-below (type_of frame)) in
    let named : is_none (type_at (type_in (first_word frame))) ≡ false = ap is_none (spelled_name frame) in
    rw (spelled_size frame, least, most, spelled_type frame, known) (ap (λ (b : Bool). cond b (Some (causes.LeftOut (type_number (type_of frame)))) None) (ap (λ (n : ℕ). is_none (type_at n)) (sym (spelled_type frame)) ∙ named))

pub spelled_body_fault : (frame : Frame) → IsFrame frame → body_fault (type_of frame) (body frame) (padding frame) ≡ None
unfolding body_fault
spelled_body_fault frame h =
    rw (length-body frame h.fields, zeros_are (padded (size frame) - size frame), rids-body frame h.fields, range-body frame h.fields, messages-body frame h.fields) refl

pub spelled_no_fault : (frame : Frame) → IsFrame frame → first_fault (spelling frame) ≡ None
unfolding first_fault
spelled_no_fault frame h =
    rw (spelled_alone frame h, spelled_word_fault frame h, spelled_name frame, spelled_size frame, spelled_body frame, spelled_padding frame) (spelled_body_fault frame h)

pub spelled_frame : (frame : Frame) → IsFrame frame → frame_in (spelling frame) ≡ Some frame
unfolding frame_in
spelled_frame frame h =
    rw (spelled_alone frame h, spelled_name frame, spelled_size frame, spelled_body frame) (ap Some (value-body frame h.fields))

pub spelled_length : (frame : Frame) → IsFrame frame → length (spelling frame) ≡ frame_length (word_of (spelling frame))
spelled_length frame h = length-spelling frame ∙ ap padded (sym (spelled_size frame) ∙ ap size_in (sym (spelled_alone frame h)))

-- ---- what has no fault is spelled so

-- the frame that bytes without a fault spell
pub record Found (bytes : List ℕ) : Type 0 where
  pub frame : Frame
  pub read : frame_in bytes ≡ Some frame
  pub spelled : Spells frame bytes

whole_body : (bytes : List ℕ) (n : ℕ) → 4 ≤ n → n ≤ length bytes → drop 4 (take n bytes) ++ drop n bytes ≡ drop 4 bytes
whole_body bytes n least le =
    sym (drop-append-le 4 (take n bytes) (drop n bytes) (omega (arith, length-take n bytes))) ∙ ap (drop 4) (take-append-drop n bytes)

spelled_by : (bytes : List ℕ) (t : FrameType) → IsBytes bytes → 4 ≤ size_in (word_of bytes) → size_in (word_of bytes) ≤ LARGEST_FRAME → type_at (type_in (word_of bytes)) ≡ Some t
    → length bytes ≡ frame_length (word_of bytes) → body_fault t (body_in bytes) (padding_in bytes) ≡ None → Spells (value t (body_in bytes)) bytes
unfolding spelling
spelled_by bytes t fits least most named whole none =
    let n : ℕ = size_in (word_of bytes) in
    let b : List ℕ = body_in bytes in
    let frame : Frame = value t (body_in bytes) in
    let tests = body_passes t (body_in bytes) (padding_in bytes) none in
    let within : size_in (word_of bytes) ≤ length bytes = omega arith in
    let b_fits : IsBytes (body_in bytes) = IsBytes-drop 4 (take (size_in (word_of bytes)) bytes) (IsBytes-take (size_in (word_of bytes)) bytes fits) in
    let same_body : body (value t (body_in bytes)) ≡ body_in bytes = body-value t (body_in bytes) b_fits tests.0.long in
    let b_len : length (body_in bytes) ≡ size_in (word_of bytes) - 4 = omega (arith, length-drop 4 (take (size_in (word_of bytes)) bytes), length-take (size_in (word_of bytes)) bytes) in
    let same_size : size (value t (body_in bytes)) ≡ size_in (word_of bytes) = omega (arith, ap length same_body) in
    let same_type : type_number (type_of (value t (body_in bytes))) ≡ type_in (word_of bytes) = ap type_number (type_of-value t (body_in bytes)) ∙ sym (number-type_at (type_in (word_of bytes)) t named) in
    let same_word : first_word (value t (body_in bytes)) ≡ word_of bytes = omega (arith, same_size, same_type) in
    let zeros : padding_in bytes ≡ padding (value t (body_in bytes)) = zeros_from (padding_in bytes) tests.1 ∙ ap (λ (k : ℕ). replicate k 0) (omega (arith, length-drop (size_in (word_of bytes)) bytes, same_size)) in
    let parts : word_bytes (first_word (value t (body_in bytes))) ++ (body (value t (body_in bytes)) ++ padding (value t (body_in bytes))) ≡ bytes =
    ap (λ (w : ℕ). word_bytes w ++ (body frame ++ padding frame)) same_word
    ∙ ap (λ (x : List ℕ). word_bytes (word_of bytes) ++ (x ++ padding frame)) same_body
    ∙ ap (λ (x : List ℕ). word_bytes (word_of bytes) ++ (body_in bytes ++ x)) (sym zeros)
    ∙ ap (λ (x : List ℕ). word_bytes (word_of bytes) ++ x) (whole_body bytes (size_in (word_of bytes)) least within)
    ∙ word_parts bytes (omega arith) fits in
    (record { fields = fields-value t (body_in bytes) b_fits tests.0; fits = omega arith }, sym parts)

pub found : (bytes : List ℕ) → IsBytes bytes → length bytes ≡ frame_length (word_of bytes) → first_fault bytes ≡ None → Found bytes
unfolding first_fault frame_in
found bytes fits whole none =
    let both = both_none (word_fault (word_of bytes)) (rest_fault (type_at (type_in (word_of bytes))) (body_in bytes) (padding_in bytes)) none in
    let w = word_passes (word_of bytes) both.0 in
    let rest : body_fault w.type (body_in bytes) (padding_in bytes) ≡ None = ap (λ (o : Option FrameType). rest_fault o (body_in bytes) (padding_in bytes)) (sym w.named) ∙ both.1 in
    record {
      frame = value w.type (body_in bytes);
      read = ap (λ (o : Option FrameType). value_of o (body_in bytes)) w.named;
      spelled = spelled_by bytes w.type fits w.least w.most w.named whole rest;
    }
