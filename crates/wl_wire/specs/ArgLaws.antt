-- Laws of the arguments in the wire format of the Wayland protocol: they are read in one way, what
-- is built is read again, and what was read is built again but for the padding.
use Rattle.std.specs.Prelude.{◌≡◌, ◌↔◌, ℕ, ◌+◌, ◌-◌, ◌^◌, ◌<◌, List, [], ◌∷◌, ◌++◌, length, take, drop, All, Bool, IsTrue, None, Result, Ok, Err, FitsSigned}
use Rattle.std.specs.Int.{w32}
use Rattle.wl_wire.specs.declared.arguments.Arg.{Arg}
use Rattle.wl_wire.specs.declared.arguments.Arg.TheVariants as arg
use Rattle.wl_wire.specs.declared.faults.WireFault.{WireFault}
use Rattle.wl_wire.specs.declared.signature.ArgKind.{ArgKind}
use Rattle.wl_wire.specs.declared.signature.ArgKind.TheVariants as kind
use Rattle.wl_wire.specs.declared.signature.Slot.{Slot}
use Rattle.wl_wire.specs.Wire.{word_at, object_of, opcode_of, IsMessage}
use Rattle.wl_wire.specs.Arguments.{padding_of, Spells}
use Rattle.wl_wire.specs.ArgFaults.{arg_size, args_fault}
use Rattle.wl_wire.specs.Building.{zeros, built}

-- bytes are spelled by one list of arguments at most
abbrev pub ReadsInOneWay : Type 0
ReadsInOneWay =
    (slots : List Slot) (bytes : List ℕ) (args others : List Arg)
    → Spells slots bytes args
    → Spells slots bytes others
    → args ≡ others

-- bytes that arguments spell have no fault, and bytes with no fault are spelled by some
abbrev pub GoodIsSpelled : Type 0
GoodIsSpelled =
    (slots : List Slot) (bytes : List ℕ)
    → (args_fault slots bytes ≡ None) ↔ ((args : List Arg) × Spells slots bytes args)

-- the argument is of the kind, within the kind's range, and null only where that is allowed
abbrev pub FitsSlot : ArgKind → Bool → Arg → Type 0
FitsSlot kind.Int null (arg.Int value) = FitsSigned w32 value
FitsSlot kind.Uint null (arg.Uint value) = value < 2 ^ 32
FitsSlot kind.Fixed null (arg.Fixed value) = FitsSigned w32 value
FitsSlot kind.Str null (arg.Str text) = length text + 1 < 2 ^ 32
FitsSlot kind.Str null arg.NullStr = IsTrue null
FitsSlot kind.Object null (arg.Object id) = (id ≡ 0 → IsTrue null) × (id < 2 ^ 32)
FitsSlot kind.NewId null (arg.NewId id) = id < 2 ^ 32
FitsSlot kind.Bind null (arg.Bind interface version id) =
    (length interface + 1 < 2 ^ 32) × (version < 2 ^ 32) × (id < 2 ^ 32)
FitsSlot kind.Array null (arg.Array content) = length content < 2 ^ 32
FitsSlot kind.Handle null arg.Handle = Unit {0}
FitsSlot _ _ _ = ⊥

-- one argument for each place, in order
abbrev pub FitSlots : List Slot → List Arg → Type 0
FitSlots [] [] = Unit {0}
FitSlots [] (it ∷ args) = ⊥
FitSlots (slot ∷ slots) [] = ⊥
FitSlots (slot ∷ slots) (it ∷ args) = FitsSlot slot.kind slot.null it × FitSlots slots args

-- arguments that fit the places are read from the message that is built of them
abbrev pub BuiltIsRead : Type 0
BuiltIsRead =
    (slots : List Slot) (object opcode : ℕ) (args : List Arg)
    → FitSlots slots args
    → Spells slots (drop 8 (built object opcode args)) args

-- the bytes of a string or an array with zeros as padding
abbrev pub cleared_span : List ℕ → List ℕ
cleared_span bytes = take (4 + word_at bytes 0) bytes ++ zeros (padding_of (word_at bytes 0))

-- the bytes of an argument with zeros as padding; what stands behind bind's string is two words
abbrev pub cleared : ArgKind → List ℕ → List ℕ
cleared kind.Str bytes = cleared_span bytes
cleared kind.Array bytes = cleared_span bytes
cleared kind.Bind bytes =
    cleared_span (take (length bytes - 8) bytes) ++ drop (length bytes - 8) bytes
cleared _ bytes = bytes

-- the argument at the front, and then the others
abbrev pub cleared_front : Result ℕ WireFault → ArgKind → List ℕ → (List ℕ → List ℕ) → List ℕ
cleared_front (Ok size) it bytes next = cleared it (take size bytes) ++ next (drop size bytes)
cleared_front (Err fault) it bytes next = bytes

-- the bytes of the arguments with zeros as padding
abbrev pub zero_padded : List Slot → List ℕ → List ℕ
zero_padded [] bytes = bytes
zero_padded (slot ∷ slots) bytes =
    cleared_front (arg_size slot.kind slot.null bytes) slot.kind bytes (zero_padded slots)

-- the message that is built of what was read is the message with zeros as padding
abbrev pub ReadIsBuilt : Type 0
ReadIsBuilt =
    (slots : List Slot) (message : List ℕ) (args : List Arg)
    → IsMessage message
    → All (λ byte. byte < 256) message
    → Spells slots (drop 8 message) args
    → built (object_of message) (opcode_of message) args
    ≡ take 8 message ++ zero_padded slots (drop 8 message)
