-- The wire format of the Wayland protocol (the chapter "Wire Format" of its document): what a
-- message is as a list of bytes, and how a stream of bytes is cut into messages.
use Rattle.std.specs.Prelude.{◌≡◌, ◌≢◌, ℕ, zero, suc, ◌+◌, ◌*◌, ◌/◌, ◌%◌, ◌^◌, ◌<◌, ◌≤◌, ◌==◌, nat_lt, not, if◌then◌else◌, List, [], ◌∷◌, ◌++◌, length, take, drop, slice_index, ◌⊎◌, Option, Some, None, Result, Ok, Err}
use Rattle.wl_wire.specs.declared.message.TheConstants.{LONGEST_MESSAGE}
use Rattle.wl_wire.specs.declared.faults.WireFault.{WireFault}
use Rattle.wl_wire.specs.declared.faults.WireFault.TheVariants.{SizeSmall, SizeOdd, ArgShort, ArgLong, StringNoNul, NullNotAllowed}

-- the lists of bytes, one behind another
abbrev pub joined : List (List ℕ) → List ℕ
joined [] = []
joined (piece ∷ pieces) = piece ++ joined pieces

-- the 32-bit word that begins at a byte; words are little-endian
unfoldable pub word_at : List ℕ → ℕ → ℕ
word_at bytes at =
    slice_index bytes at + 2 ^ 8 * slice_index bytes (at + 1)
    + 2 ^ 16 * slice_index bytes (at + 2) + 2 ^ 24 * slice_index bytes (at + 3)

-- the header's first word: the id of the object that the message is for
abbrev pub object_of : List ℕ → ℕ
object_of bytes = word_at bytes 0

-- the lower half of the header's second word
abbrev pub opcode_of : List ℕ → ℕ
opcode_of bytes = word_at bytes 4 % 2 ^ 16

-- the upper half of the header's second word: how many bytes the message has, the header's 8 among
-- them
unfoldable pub size_of : List ℕ → ℕ
size_of bytes = word_at bytes 4 / 2 ^ 16 % 2 ^ 16

-- a whole message, as its header counts it
pub record IsMessage (bytes : List ℕ) : Type 0 where
  pub has_header : 8 ≤ length bytes
  pub is_bounded : length bytes ≤ LONGEST_MESSAGE
  pub is_padded : length bytes % 4 ≡ 0
  pub is_counted : size_of bytes ≡ length bytes

-- what stands at the front: a whole message, none yet, or the fault of its size
unfoldable pub first : List ℕ → Result (Option (List ℕ)) WireFault
first bytes =
    if nat_lt (length bytes) 8 then Ok None
    else (if nat_lt (size_of bytes) 8 then Err SizeSmall
    else (if not (size_of bytes % 4 == 0) then Err SizeOdd
    else (if nat_lt (length bytes) (size_of bytes) then Ok None
    else Ok (Some (take (size_of bytes) bytes)))))

-- a size that is at fault nowhere
pub record SizeIsFine (bytes : List ℕ) : Type 0 where
  pub covers_header : 8 ≤ size_of bytes
  pub is_padded : size_of bytes % 4 ≡ 0

-- no whole message stands at the front, and its size is not at fault: bytes of it are still to come
abbrev pub NoMessage : List ℕ → Type 0
NoMessage bytes = (length bytes < 8) ⊎ (SizeIsFine bytes × (length bytes < size_of bytes))

-- the header stands at the front, and its size has this fault
abbrev pub SizeFault : List ℕ → WireFault → Type 0
SizeFault bytes SizeSmall = (8 ≤ length bytes) × (size_of bytes < 8)
SizeFault bytes SizeOdd = (8 ≤ length bytes) × (8 ≤ size_of bytes) × (size_of bytes % 4 ≢ 0)
SizeFault bytes ArgShort = ⊥
SizeFault bytes ArgLong = ⊥
SizeFault bytes StringNoNul = ⊥
SizeFault bytes NullNotAllowed = ⊥

-- no whole message stands at the front: bytes are missing, or the size is at fault
abbrev pub Stops : List ℕ → Type 0
Stops bytes = (message tail : List ℕ) → IsMessage message → bytes ≢ message ++ tail

-- the bytes are these messages and then a rest with no message in front, which may be empty
abbrev pub Cuts : List ℕ → List (List ℕ) → List ℕ → Type 0
Cuts bytes [] rest = (bytes ≡ rest) × Stops bytes
Cuts bytes (message ∷ messages) rest =
    IsMessage message × ((tail : List ℕ) × (bytes ≡ message ++ tail) × Cuts tail messages rest)

-- what becomes of the message at the front, if a whole one stands there
abbrev pub if_message : {X : Type 0} → Result (Option (List ℕ)) WireFault → X → (List ℕ → X) → X
if_message (Ok (Some message)) other next = next message
if_message (Ok None) other next = other
if_message (Err fault) other next = other

-- at most so many messages from the front
unfoldable pub cut_within : ℕ → List ℕ → List (List ℕ)
cut_within zero bytes = []
cut_within (suc most) bytes =
    if_message (first bytes) [] (λ message. message ∷ cut_within most (drop (length message) bytes))

-- the whole messages at the front, up to a rest or up to the first size at fault
unfoldable pub cut : List ℕ → List (List ℕ)
cut bytes = cut_within (length bytes) bytes

-- the bytes behind the whole messages at the front
unfoldable pub cut_rest : List ℕ → List ℕ
cut_rest bytes = drop (length (joined (cut bytes))) bytes

-- the fault at the front, if there is one
abbrev pub fault_in : Result (Option (List ℕ)) WireFault → Option WireFault
fault_in (Ok front) = None
fault_in (Err fault) = Some fault

-- the fault that stands behind the whole messages at the front, if there is one
abbrev pub cut_fault : List ℕ → Option WireFault
cut_fault bytes = fault_in (first (cut_rest bytes))
