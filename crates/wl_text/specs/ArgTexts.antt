-- The text of a message's arguments; the form is this project's own, near to that of libwayland's
-- `WAYLAND_DEBUG`.
use Rattle.std.specs.Prelude.{ℕ, ℤ, ◌==◌, if◌then◌else◌, List, [], ◌∷◌, ◌++◌, drop, codes, decimal}
use Rattle.std.specs.Fmt.{signed_decimal}
use Rattle.wl_wire.specs.declared.arguments.Arg.{Arg}
use Rattle.wl_wire.specs.declared.arguments.Arg.TheVariants.{Int, Uint, Fixed, Str, NullStr, Object}
use Rattle.wl_wire.specs.declared.arguments.Arg.TheVariants.{NewId, Bind, Array, Handle}
use Rattle.wl_text.specs.declared.enclosed.Enclosure.TheVariants.{Quotes, Brackets}
use Rattle.wl_text.specs.Enclosed.{enclosed_text}

-- the id of an object that may be none
abbrev pub object_text : ℕ → List ℕ
object_text id = if id == 0 then codes "null" else codes "@" ++ decimal id

-- the id of a new object
abbrev pub new_text : ℕ → List ℕ
new_text id = codes "new @" ++ decimal id

-- the number of the first handle
abbrev pub handle_text : List ℤ → List ℕ
handle_text [] = codes "fd %"
handle_text (number ∷ handles) = codes "fd %" ++ signed_decimal number

-- one argument, where these are the handles that are left
abbrev pub arg_text : Arg → List ℤ → List ℕ
arg_text (Int value) handles = signed_decimal value
arg_text (Uint value) handles = decimal value
arg_text (Fixed value) handles = signed_decimal value ++ codes "/256"
arg_text (Str text) handles = enclosed_text Quotes text
arg_text NullStr handles = codes "null"
arg_text (Object id) handles = object_text id
arg_text (NewId id) handles = new_text id
arg_text (Bind interface version id) handles =
    enclosed_text Quotes interface ++ (codes " " ++ (decimal version ++ (codes " " ++ new_text id)))
arg_text (Array content) handles = enclosed_text Brackets content
arg_text Handle handles = handle_text handles

-- the handles that are left behind it
abbrev pub handles_behind : Arg → List ℤ → List ℤ
handles_behind Handle handles = drop 1 handles
handles_behind _ handles = handles

-- what stands between two arguments
abbrev pub comma : List ℕ
comma = codes ", "

-- all arguments, with a word before the first
abbrev pub args_text : List ℕ → List Arg → List ℤ → List ℕ
args_text word [] handles = []
args_text word (it ∷ args) handles =
    word ++ (arg_text it handles ++ args_text comma args (handles_behind it handles))
