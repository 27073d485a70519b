-- What is wrong with bytes that should be a frame: the causes 1 to 9, in the order in which they
-- are tested.
use Rattle.std.specs.Prelude.{ℕ, ◌+◌, ◌-◌, ◌/◌, ◌%◌, nat_lt, nat_le, ◌==◌, if◌then◌else◌, Bool}
use Rattle.std.specs.Prelude.{true, false, not, ◌&&◌, List, [], ◌∷◌, length, take, drop, Option}
use Rattle.std.specs.Prelude.{Some, None, is_none}
use Rattle.std.specs.List.{list_any, list_all}
use Rattle.wl_wire.specs.Wire.{cut_rest}
use Rattle.transfer_frames.specs.declared.frame.TheConstants.{LARGEST_FRAME, LONGEST_TRANSFER}
use Rattle.transfer_frames.specs.declared.cause.FrameCause.{FrameCause}
use Rattle.transfer_frames.specs.declared.cause.FrameCause.TheVariants.{SizeSmall, SizeLarge}
use Rattle.transfer_frames.specs.declared.cause.FrameCause.TheVariants.{UnknownType, LeftOut}
use Rattle.transfer_frames.specs.declared.cause.FrameCause.TheVariants.{BodyLength, Padding}
use Rattle.transfer_frames.specs.declared.cause.FrameCause.TheVariants.{RidZero, FillRange}
use Rattle.transfer_frames.specs.declared.cause.FrameCause.TheVariants.{MessageCut}
use Rattle.transfer_frames.specs.declared.kinds.FrameType.{FrameType}
use Rattle.transfer_frames.specs.declared.kinds.FrameType.TheVariants.{Protocol, Inject, OpenFile}
use Rattle.transfer_frames.specs.declared.kinds.FrameType.TheVariants.{ExtendFile, Fill, OpenPipe}
use Rattle.transfer_frames.specs.declared.kinds.FrameType.TheVariants.{PipeTransfer, PipeShutR}
use Rattle.transfer_frames.specs.declared.kinds.FrameType.TheVariants.{PipeShutW, Ack, Restart}
use Rattle.transfer_frames.specs.declared.kinds.FrameType.TheVariants.{Close}
use Rattle.transfer_frames.specs.Numbers.{word_of, words_of}
use Rattle.transfer_frames.specs.Grammar.{type_at, padded}

-- the cause of the first test that is met
abbrev pub first_of : List (Bool × FrameCause) → Option FrameCause
first_of [] = None
first_of (test ∷ tests) = if test.0 then Some test.1 else first_of tests

-- ---- the first word

abbrev pub size_in : ℕ → ℕ
size_in word = word / 32

abbrev pub type_in : ℕ → ℕ
type_in word = word % 32

-- how many bytes the frame with this first word takes, its padding included
abbrev pub frame_length : ℕ → ℕ
frame_length word = padded (size_in word)

-- the first cause that the first word shows
unfoldable pub word_fault : ℕ → Option FrameCause
word_fault word = first_of (
    (nat_lt (size_in word) 4, SizeSmall) ∷
    (nat_lt LARGEST_FRAME (size_in word), SizeLarge) ∷
    (nat_lt 18 (type_in word), UnknownType) ∷
    (is_none (type_at (type_in word)), LeftOut (type_in word)) ∷ [])

-- ---- the body of a type

-- the lengths that it may have
abbrev pub has_length : FrameType → ℕ → Bool
has_length Protocol n = nat_le 8 n
has_length Inject n = nat_lt 0 n && (n % 4 == 0)
has_length OpenFile n = n == 8
has_length ExtendFile n = n == 8
has_length Fill n = nat_lt 12 n && ((n - 12) % 64 == 0)
has_length OpenPipe n = n == 4
has_length PipeTransfer n = nat_le 5 n && nat_le n (4 + LONGEST_TRANSFER)
has_length PipeShutR n = n == 4
has_length PipeShutW n = n == 4
has_length Ack n = n == 8
has_length Restart n = n == 28
has_length Close n = n == 4

-- whether a rid in it is 0: all of its words, none, or its first word
abbrev pub has_zero_rid : FrameType → List ℕ → Bool
has_zero_rid Protocol body = false
has_zero_rid Inject body = list_any (λ word. word == 0) (words_of body)
has_zero_rid Ack body = false
has_zero_rid Restart body = false
has_zero_rid Close body = false
has_zero_rid type body = word_of body == 0

-- whether the range of a FILL has whole blocks, as many bytes as follow it
abbrev pub has_range : FrameType → List ℕ → Bool
has_range Fill body =
    (word_of (drop 4 body) % 64 == 0) && (word_of (drop 8 body) % 64 == 0)
    && (word_of (drop 8 body) == word_of (drop 4 body) + (length body - 12))
has_range type body = true

-- whether the body of a PROTOCOL is a row of whole messages
abbrev pub has_messages : FrameType → List ℕ → Bool
has_messages Protocol body = length (cut_rest body) == 0
has_messages type body = true

-- the first cause that a body and a padding show
unfoldable pub body_fault : FrameType → List ℕ → List ℕ → Option FrameCause
body_fault type body padding = first_of (
    (not (has_length type (length body)), BodyLength) ∷
    (not (list_all (λ b. b == 0) padding), Padding) ∷
    (has_zero_rid type body, RidZero) ∷
    (not (has_range type body), FillRange) ∷
    (not (has_messages type body), MessageCut) ∷ [])

-- ---- all of it

abbrev pub body_in : List ℕ → List ℕ
body_in bytes = drop 4 (take (size_in (word_of bytes)) bytes)

abbrev pub padding_in : List ℕ → List ℕ
padding_in bytes = drop (size_in (word_of bytes)) bytes

-- the first one, and if there is none the other
abbrev pub or_else : Option FrameCause → Option FrameCause → Option FrameCause
or_else None other = other
or_else (Some cause) other = Some cause

-- the fault of the rest, where the first word names a type
abbrev pub rest_fault : Option FrameType → List ℕ → List ℕ → Option FrameCause
rest_fault None body padding = None
rest_fault (Some type) body padding = body_fault type body padding

-- the first of the causes 1 to 9
unfoldable pub first_fault : List ℕ → Option FrameCause
first_fault bytes =
    or_else (word_fault (word_of bytes))
    (rest_fault (type_at (type_in (word_of bytes))) (body_in bytes) (padding_in bytes))
