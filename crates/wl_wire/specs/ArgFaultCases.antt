-- What is wrong with the arguments of a message, case by case in the words of the wire format of
-- the Wayland protocol (the chapter "Wire Format" of its document).
use Rattle.std.specs.Prelude.{◌≡◌, ◌≢◌, ℕ, ◌+◌, ◌<◌, ◌≤◌, ◌↔◌, ◌⊎◌, List, [], ◌∷◌, ◌++◌, length, slice_index, Bool, false, Some}
use Rattle.wl_wire.specs.declared.arguments.Arg.{Arg}
use Rattle.wl_wire.specs.declared.faults.WireFault.{WireFault}
use Rattle.wl_wire.specs.declared.faults.WireFault.TheVariants.{ArgShort, ArgLong, StringNoNul, NullNotAllowed}
use Rattle.wl_wire.specs.declared.signature.ArgKind.{ArgKind}
use Rattle.wl_wire.specs.declared.signature.ArgKind.TheVariants.{Int, Uint, Fixed, Str, Object, NewId, Bind, Array, Handle}
use Rattle.wl_wire.specs.declared.signature.Slot.{Slot}
use Rattle.wl_wire.specs.Wire.{word_at}
use Rattle.wl_wire.specs.Arguments.{Spells}
use Rattle.wl_wire.specs.ArgFaults.{span_of, args_fault}

-- the bytes end within the length, or before all that it counts and the padding behind
abbrev pub EndsEarly : List ℕ → Type 0
EndsEarly bytes = (length bytes < 4) ⊎ ((4 ≤ length bytes) × (length bytes < span_of bytes))

-- a length other than 0 stands there, with all that it counts and the padding behind
pub record IsThere (bytes : List ℕ) : Type 0 where
  pub room : 4 ≤ length bytes
  pub some : word_at bytes 0 ≢ 0
  pub whole : span_of bytes ≤ length bytes

-- the last byte that the length counts
abbrev pub last_counted : List ℕ → ℕ
last_counted bytes = slice_index bytes (word_at bytes 0 + 3)

-- a null stands where the message allows none
abbrev pub IsNullRefused : Bool → List ℕ → Type 0
IsNullRefused null bytes = (null ≡ false) × (4 ≤ length bytes) × (word_at bytes 0 ≡ 0)

-- a number or a new id is four bytes
abbrev pub WordFault : List ℕ → WireFault → Type 0
WordFault bytes ArgShort = length bytes < 4
WordFault bytes _ = ⊥

-- an object is four bytes, 0 for null
abbrev pub ObjectFault : Bool → List ℕ → WireFault → Type 0
ObjectFault null bytes ArgShort = length bytes < 4
ObjectFault null bytes NullNotAllowed = IsNullRefused null bytes
ObjectFault null bytes _ = ⊥

-- an array is a length, so many bytes, and padding
abbrev pub ArrayFault : List ℕ → WireFault → Type 0
ArrayFault bytes ArgShort = EndsEarly bytes
ArrayFault bytes _ = ⊥

-- a string is the same with a NUL as its last byte, and a length of 0 for null
abbrev pub StringFault : Bool → List ℕ → WireFault → Type 0
StringFault null bytes ArgShort = EndsEarly bytes
StringFault null bytes StringNoNul = IsThere bytes × (last_counted bytes ≢ 0)
StringFault null bytes NullNotAllowed = IsNullRefused null bytes
StringFault null bytes _ = ⊥

-- what `bind` names is a string that isn't null, and two words
abbrev pub BindFault : List ℕ → WireFault → Type 0
BindFault bytes ArgShort =
    EndsEarly bytes
    ⊎ (IsThere bytes × (last_counted bytes ≡ 0) × (length bytes < span_of bytes + 8))
BindFault bytes fault = StringFault false bytes fault

-- the argument that begins with these bytes has this fault; a file descriptor takes no bytes and
-- has none
abbrev pub ArgFault : ArgKind → Bool → List ℕ → WireFault → Type 0
ArgFault Int null bytes fault = WordFault bytes fault
ArgFault Uint null bytes fault = WordFault bytes fault
ArgFault Fixed null bytes fault = WordFault bytes fault
ArgFault Str null bytes fault = StringFault null bytes fault
ArgFault Object null bytes fault = ObjectFault null bytes fault
ArgFault NewId null bytes fault = WordFault bytes fault
ArgFault Bind null bytes fault = BindFault bytes fault
ArgFault Array null bytes fault = ArrayFault bytes fault
ArgFault Handle null bytes fault = ⊥

-- the first of the arguments that are left has this fault; where none is left, there are bytes left
abbrev pub FaultOfNext : List Slot → List ℕ → WireFault → Type 0
FaultOfNext [] bytes fault = (fault ≡ ArgLong) × (bytes ≢ [])
FaultOfNext (slot ∷ slots) bytes fault = ArgFault slot.kind slot.null bytes fault

-- arguments spell a front of the bytes, one for each of the first places, and what comes next has
-- this fault
pub record IsFirstFault (slots : List Slot) (bytes : List ℕ) (fault : WireFault) : Type 0 where
  pub before : List Slot
  pub later : List Slot
  pub front : List ℕ
  pub rest : List ℕ
  pub args : List Arg
  pub places : before ++ later ≡ slots
  pub parts : front ++ rest ≡ bytes
  pub good : Spells before front args
  pub next : FaultOfNext later rest fault

-- the function that tells the fault and the relation are one
abbrev pub FaultIsTold : Type 0
FaultIsTold =
    (slots : List Slot) (bytes : List ℕ) (fault : WireFault)
    → (args_fault slots bytes ≡ Some fault) ↔ IsFirstFault slots bytes fault
