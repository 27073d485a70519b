-- Reading the text of a message's arguments by their places; the form is this project's own.
use Rattle.std.specs.Prelude.{ℕ, ℤ, ◌==◌, if◌then◌else◌, List, [], ◌∷◌, ◌++◌, codes, Bool, Option}
use Rattle.std.specs.Prelude.{Some, None, option_map}
use Rattle.wl_wire.specs.declared.arguments.Arg.{Arg}
use Rattle.wl_wire.specs.declared.arguments.Arg.TheVariants as arg
use Rattle.wl_wire.specs.declared.signature.ArgKind.{ArgKind}
use Rattle.wl_wire.specs.declared.signature.ArgKind.TheVariants as kind
use Rattle.wl_wire.specs.declared.signature.Slot.{Slot}
use Rattle.wl_text.specs.declared.arg_reading.TextArg.{TextArg}
use Rattle.wl_text.specs.declared.arg_reading.TextArgs.{TextArgs}
use Rattle.wl_text.specs.declared.enclosed.Enclosure.TheVariants.{Quotes, Brackets}
use Rattle.wl_text.specs.Front.{Read, ◌>>=◌, behind}
use Rattle.wl_text.specs.Decimals.{number_at, signed_at}
use Rattle.wl_text.specs.Enclosed.{enclosed_at}
use Rattle.wl_text.specs.ArgTexts.{comma}

-- an argument that is no handle
abbrev pub plain : Arg → TextArg
plain it = record { arg = it; handle = None }

-- the sign of null, where a place allows it
abbrev pub null_at : Bool → Arg → List ℕ → Read TextArg
null_at null it rest = if null then Some (plain it, rest) else None

-- a signed number
unfoldable pub int_at : List ℕ → Read TextArg
int_at text = do
  value ← signed_at text
  Some (plain (arg.Int value.0), value.1)

-- an unsigned number
unfoldable pub uint_at : List ℕ → Read TextArg
uint_at text = do
  value ← number_at text
  Some (plain (arg.Uint value.0), value.1)

-- a signed number of so many 1/256
unfoldable pub fixed_at : List ℕ → Read TextArg
fixed_at text = do
  value ← signed_at text
  rest ← behind (codes "/256") value.1
  Some (plain (arg.Fixed value.0), rest)

-- a string that isn't null
unfoldable pub quoted_at : List ℕ → Read TextArg
quoted_at text = do
  bytes ← enclosed_at Quotes text
  Some (plain (arg.Str bytes.0), bytes.1)

-- a string, with the text behind the sign of null if that stands there
abbrev pub string_from : Option (List ℕ) → Bool → List ℕ → Read TextArg
string_from (Some rest) null text = null_at null arg.NullStr rest
string_from None null text = quoted_at text

-- an id that isn't 0
abbrev pub id_from : ℕ × List ℕ → Read TextArg
id_from (id, rest) = if id == 0 then None else Some (plain (arg.Object id), rest)

-- an object, with the text behind the sign of null if that stands there
abbrev pub object_from : Option (List ℕ) → Bool → List ℕ → Read TextArg
object_from (Some rest) null text = null_at null (arg.Object 0) rest
object_from None null text = behind (codes "@") text >>= number_at >>= id_from

-- the id of a new object
unfoldable pub new_id_at : List ℕ → Read ℕ
new_id_at text = behind (codes "new @") text >>= number_at

-- a new object of the interface that the table names
unfoldable pub new_at : List ℕ → Read TextArg
new_at text = do
  id ← new_id_at text
  Some (plain (arg.NewId id.0), id.1)

-- the version and the id of what is bound
unfoldable pub bound_at : List ℕ → Read (ℕ × ℕ)
bound_at text = do
  second ← behind (codes " ") text
  version ← number_at second
  third ← behind (codes " ") version.1
  id ← new_id_at third
  Some ((version.0, id.0), id.1)

-- a new object with the name of its interface, its version and its id
unfoldable pub bind_at : List ℕ → Read TextArg
bind_at text = do
  interface ← enclosed_at Quotes text
  bound ← bound_at interface.1
  Some (plain (arg.Bind interface.0 bound.0.0 bound.0.1), bound.1)

-- an array
unfoldable pub array_at : List ℕ → Read TextArg
array_at text = do
  bytes ← enclosed_at Brackets text
  Some (plain (arg.Array bytes.0), bytes.1)

-- a handle by its number
unfoldable pub handle_at : List ℕ → Read TextArg
handle_at text = do
  rest ← behind (codes "fd %") text
  number ← signed_at rest
  Some (record { arg = arg.Handle; handle = Some number.0 }, number.1)

-- the argument of this kind
abbrev pub arg_at : ArgKind → Bool → List ℕ → Read TextArg
arg_at kind.Int null text = int_at text
arg_at kind.Uint null text = uint_at text
arg_at kind.Fixed null text = fixed_at text
arg_at kind.Str null text = string_from (behind (codes "null") text) null text
arg_at kind.Object null text = object_from (behind (codes "null") text) null text
arg_at kind.NewId null text = new_at text
arg_at kind.Bind null text = bind_at text
arg_at kind.Array null text = array_at text
arg_at kind.Handle null text = handle_at text

-- the number of its handle, if it is one, and then the others
abbrev pub with_handle : Option ℤ → List ℤ → List ℤ
with_handle None handles = handles
with_handle (Some number) handles = number ∷ handles

-- an argument before others
abbrev pub with_arg : TextArg → TextArgs → TextArgs
with_arg it more =
    record { args = it.arg ∷ more.args; handles = with_handle it.handle more.handles }

-- an argument behind others
abbrev pub and_arg : TextArgs → TextArg → TextArgs
and_arg said it =
    record { args = said.args ++ it.arg ∷ []; handles = said.handles ++ with_handle it.handle [] }

-- an argument for this place, behind a word
unfoldable pub arg_behind : List ℕ → Slot → List ℕ → Read TextArg
arg_behind word slot text = behind word text >>= arg_at slot.kind slot.null

-- one argument for each place, with a word before the first
unfoldable pub args_at : List ℕ → List Slot → List ℕ → Read TextArgs
args_at word [] text = Some (record { args = []; handles = [] }, text)
args_at word (slot ∷ slots) text =
    arg_behind word slot text
    >>= (λ one. option_map (λ more. (with_arg one.0 more.0, more.1))
    (args_at comma slots one.1))
