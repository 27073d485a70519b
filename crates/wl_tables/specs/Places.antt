-- What a row of the Wayland protocol's table of messages says: the message's name, the places of
-- its arguments, and whether it destroys its object (the `type="destructor"` of the protocol's
-- files).
use Prim.Native.String.{String}
use Rattle.std.specs.Prelude.{ℕ, List, Bool, true, false, codes}
use Rattle.wl_wire.specs.declared.signature.ArgKind.TheVariants as kind
use Rattle.wp_outside.specs.declared.kinds.HandleKind.TheVariants as handle
use Rattle.wl_tables.specs.declared.rows.Place.{Place}
use Rattle.wl_tables.specs.declared.rows.Place.TheVariants.{Plain, OrNull, Carried}

pub record MessageRow : Type 0 where
  pub name : List ℕ
  pub places : List Place
  pub destroys : Bool

-- a message that leaves its object as it is
abbrev pub message : String → List Place → MessageRow
message name places = record { name = codes name; places = places; destroys = false }

-- a message that destroys its object
abbrev pub destructor : String → List Place → MessageRow
destructor name places = record { name = codes name; places = places; destroys = true }

-- the kinds of arguments, by the names of the protocol's files
abbrev pub int : Place
int = Plain kind.Int

abbrev pub uint : Place
uint = Plain kind.Uint

abbrev pub fixed : Place
fixed = Plain kind.Fixed

abbrev pub string : Place
string = Plain kind.Str

abbrev pub string_or_null : Place
string_or_null = OrNull kind.Str

abbrev pub object : Place
object = Plain kind.Object

abbrev pub object_or_null : Place
object_or_null = OrNull kind.Object

abbrev pub array : Place
array = Plain kind.Array

-- a new object of any interface, named by the message itself
abbrev pub bound : Place
bound = Plain kind.Bind

-- a handle of a file
abbrev pub file : Place
file = Carried handle.File

-- a handle of the write end of a pipe
abbrev pub pipe_end : Place
pipe_end = Carried handle.PipeWrite
