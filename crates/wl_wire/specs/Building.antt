-- How a message is spelled in the wire format of the Wayland protocol (the chapter "Wire Format" of
-- its document), with zeros as padding.
use Rattle.std.specs.Prelude.{ℕ, ◌+◌, ◌*◌, ◌^◌, List, [], ◌∷◌, ◌++◌, length, replicate}
use Rattle.std.specs.Int.{cast_unsigned, to_le_bytes, w32}
use Rattle.wl_wire.specs.declared.arguments.Arg.{Arg}
use Rattle.wl_wire.specs.declared.arguments.Arg.TheVariants.{Int, Uint, Fixed, Str, NullStr, Object, NewId, Bind, Array, Handle}
use Rattle.wl_wire.specs.Arguments.{padding_of}

-- a word; words are little-endian
unfoldable pub word_bytes : ℕ → List ℕ
word_bytes value = to_le_bytes w32 value

abbrev pub zeros : ℕ → List ℕ
zeros count = replicate count 0

-- a length, what it counts, and zeros up to a multiple of four
abbrev pub counted_bytes : List ℕ → List ℕ
counted_bytes content =
    word_bytes (length content) ++ (content ++ zeros (padding_of (length content)))

-- a string, whose NUL is counted
abbrev pub string_bytes_of : List ℕ → List ℕ
string_bytes_of text = counted_bytes (text ++ 0 ∷ [])

-- one argument
abbrev pub arg_bytes : Arg → List ℕ
arg_bytes (Int value) = word_bytes (cast_unsigned w32 value)
arg_bytes (Uint value) = word_bytes value
arg_bytes (Fixed value) = word_bytes (cast_unsigned w32 value)
arg_bytes (Str text) = string_bytes_of text
arg_bytes NullStr = word_bytes 0
arg_bytes (Object id) = word_bytes id
arg_bytes (NewId id) = word_bytes id
arg_bytes (Bind interface version id) =
    string_bytes_of interface ++ (word_bytes version ++ word_bytes id)
arg_bytes (Array content) = counted_bytes content
arg_bytes Handle = []

-- the arguments, one behind another
abbrev pub args_bytes : List Arg → List ℕ
args_bytes [] = []
args_bytes (arg ∷ args) = arg_bytes arg ++ args_bytes args

-- a message: the object, the size above the opcode, and the arguments; the size counts the header's
-- eight bytes
abbrev pub built : ℕ → ℕ → List Arg → List ℕ
built object opcode args =
    word_bytes object
    ++ (word_bytes (opcode + 2 ^ 16 * (8 + length (args_bytes args))) ++ args_bytes args)
