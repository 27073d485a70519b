-- What is wrong with the arguments of a message in the wire format of the Wayland protocol: the
-- fault of the first argument at fault, or bytes that are left.
use Rattle.std.specs.Prelude.{◌≡◌, ◌≢◌, ℕ, ◌+◌, ◌==◌, nat_lt, if◌then◌else◌, List, [], ◌∷◌, length, drop, slice_index, Bool, false, Option, Some, None, Result, Ok, Err}
use Rattle.wl_wire.specs.declared.faults.MessageFault.{MessageFault}
use Rattle.wl_wire.specs.declared.faults.MessageFault.TheVariants.{Wire, Memory}
use Rattle.wl_wire.specs.declared.faults.WireFault.{WireFault}
use Rattle.wl_wire.specs.declared.faults.WireFault.TheVariants.{ArgShort, ArgLong, StringNoNul, NullNotAllowed}
use Rattle.wl_wire.specs.declared.signature.ArgKind.{ArgKind}
use Rattle.wl_wire.specs.declared.signature.ArgKind.TheVariants.{Int, Uint, Fixed, Str, Object, NewId, Bind, Array, Handle}
use Rattle.wl_wire.specs.declared.signature.Slot.{Slot}
use Rattle.wl_wire.specs.Wire.{word_at}
use Rattle.wl_wire.specs.Arguments.{padding_of}

-- the length of a string or an array at the front, with what it counts and the padding
unfoldable pub span_of : List ℕ → ℕ
span_of bytes = 4 + (word_at bytes 0 + padding_of (word_at bytes 0))

-- how many bytes a word takes, or that they aren't there
unfoldable pub word_size : List ℕ → Result ℕ WireFault
word_size bytes = if nat_lt (length bytes) 4 then Err ArgShort else Ok 4

unfoldable pub object_size : Bool → List ℕ → Result ℕ WireFault
object_size null bytes =
    if nat_lt (length bytes) 4 then Err ArgShort
    else (if word_at bytes 0 == 0 then (if null then Ok 4 else Err NullNotAllowed)
    else Ok 4)

-- a length, what it counts, and padding
unfoldable pub array_size : List ℕ → Result ℕ WireFault
array_size bytes =
    if nat_lt (length bytes) 4 then Err ArgShort
    else (if nat_lt (length bytes) (span_of bytes) then Err ArgShort
    else Ok (span_of bytes))

-- the same, with a NUL as the last that is counted; a length of 0 is the null string
unfoldable pub string_size : Bool → List ℕ → Result ℕ WireFault
string_size null bytes =
    if nat_lt (length bytes) 4 then Err ArgShort
    else (if word_at bytes 0 == 0 then (if null then Ok 4 else Err NullNotAllowed)
    else (if nat_lt (length bytes) (span_of bytes) then Err ArgShort
    else (if slice_index bytes (word_at bytes 0 + 3) == 0 then Ok (span_of bytes)
    else Err StringNoNul)))

-- two words behind what takes so many bytes
abbrev pub with_two_words : Result ℕ WireFault → List ℕ → Result ℕ WireFault
with_two_words (Ok size) bytes =
    if nat_lt (length bytes) (size + 8) then Err ArgShort else Ok (size + 8)
with_two_words (Err fault) bytes = Err fault

-- how many bytes the argument at the front takes, or what is wrong with it
abbrev pub arg_size : ArgKind → Bool → List ℕ → Result ℕ WireFault
arg_size Int null bytes = word_size bytes
arg_size Uint null bytes = word_size bytes
arg_size Fixed null bytes = word_size bytes
arg_size Str null bytes = string_size null bytes
arg_size Object null bytes = object_size null bytes
arg_size NewId null bytes = word_size bytes
arg_size Bind null bytes = with_two_words (string_size false bytes) bytes
arg_size Array null bytes = array_size bytes
arg_size Handle null bytes = Ok 0

-- goes on behind an argument that is good
abbrev pub after_arg : Result ℕ WireFault → (ℕ → Option WireFault) → Option WireFault
after_arg (Ok size) later = later size
after_arg (Err fault) later = Some fault

-- the fault of the first argument at fault; behind good ones, bytes that are left
abbrev pub args_fault : List Slot → List ℕ → Option WireFault
args_fault [] [] = None
args_fault [] (byte ∷ bytes) = Some ArgLong
args_fault (slot ∷ slots) bytes =
    after_arg (arg_size slot.kind slot.null bytes) (λ size. args_fault slots (drop size bytes))

-- the answer is that fault, or that there is none; memory is wanted only where there is none, and
-- an argument to keep
abbrev pub Decodes : {X : Type 0} → List Slot → Result X MessageFault → Option WireFault → Type 0
Decodes slots (Ok it) fault = fault ≡ None
Decodes slots (Err (Wire it)) fault = fault ≡ Some it
Decodes slots (Err Memory) fault = (fault ≡ None) × (slots ≢ [])
