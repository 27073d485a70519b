-- The values of a message's arguments in the wire format of the Wayland protocol (the chapter "Wire
-- Format" of its document), where the bytes are good.
use Rattle.std.specs.Prelude.{ℕ, ◌-◌, ◌==◌, if◌then◌else◌, List, [], ◌∷◌, length, take, drop, Result, Ok, Err}
use Rattle.std.specs.Int.{cast_signed, w32}
use Rattle.wl_wire.specs.declared.arguments.Arg.{Arg}
use Rattle.wl_wire.specs.declared.arguments.Arg.TheVariants as arg
use Rattle.wl_wire.specs.declared.faults.WireFault.{WireFault}
use Rattle.wl_wire.specs.declared.signature.ArgKind.{ArgKind}
use Rattle.wl_wire.specs.declared.signature.ArgKind.TheVariants as kind
use Rattle.wl_wire.specs.declared.signature.Slot.{Slot}
use Rattle.wl_wire.specs.Wire.{word_at}
use Rattle.wl_wire.specs.ArgFaults.{arg_size}

-- the text of a string, without its NUL
abbrev pub text_in : List ℕ → List ℕ
text_in bytes = take (word_at bytes 0 - 1) (drop 4 bytes)

-- the argument of this kind that these bytes are
abbrev pub arg_in : ArgKind → List ℕ → Arg
arg_in kind.Int bytes = arg.Int (cast_signed w32 (word_at bytes 0))
arg_in kind.Uint bytes = arg.Uint (word_at bytes 0)
arg_in kind.Fixed bytes = arg.Fixed (cast_signed w32 (word_at bytes 0))
arg_in kind.Str bytes = if word_at bytes 0 == 0 then arg.NullStr else arg.Str (text_in bytes)
arg_in kind.Object bytes = arg.Object (word_at bytes 0)
arg_in kind.NewId bytes = arg.NewId (word_at bytes 0)
arg_in kind.Bind bytes =
    arg.Bind (text_in bytes) (word_at (drop (length bytes - 8) bytes) 0)
    (word_at (drop (length bytes - 4) bytes) 0)
arg_in kind.Array bytes = arg.Array (take (word_at bytes 0) (drop 4 bytes))
arg_in kind.Handle bytes = arg.Handle

-- the argument at the front, and then the others
abbrev pub arg_front : Result ℕ WireFault → ArgKind → List ℕ → (List ℕ → List Arg) → List Arg
arg_front (Ok size) it bytes next = arg_in it (take size bytes) ∷ next (drop size bytes)
arg_front (Err fault) it bytes next = []

-- the arguments at these places
abbrev pub args_in : List Slot → List ℕ → List Arg
args_in [] bytes = []
args_in (slot ∷ slots) bytes =
    arg_front (arg_size slot.kind slot.null bytes) slot.kind bytes (args_in slots)
