-- What a view of an argument in a message's bytes stands for, and the answers of the calls that
-- read arguments; the arguments are those of the wire format of the Wayland protocol.
use Rattle.wl_wire.specs.declared.arguments.Arg.{Arg}
use Rattle.wl_wire.specs.declared.arguments.Arg.TheVariants as arg
use Rattle.wl_wire.specs.declared.arg_views.ArgView.{ArgView}
use Rattle.wl_wire.specs.declared.arg_views.ArgView.TheVariants as view

-- the argument that is seen
abbrev pub seen_arg : ArgView → Arg
seen_arg (view.Int value) = arg.Int value
seen_arg (view.Uint value) = arg.Uint value
seen_arg (view.Fixed value) = arg.Fixed value
seen_arg (view.Str text) = arg.Str text.now
seen_arg view.NullStr = arg.NullStr
seen_arg (view.Object id) = arg.Object id
seen_arg (view.NewId id) = arg.NewId id
seen_arg (view.Bind interface version id) = arg.Bind interface.now version id
seen_arg (view.Array content) = arg.Array content.now
seen_arg view.Handle = arg.Handle

-- the argument is neither a string, nor an array, nor what `bind` names
abbrev pub HasNoBytes : ArgView → Type 0
HasNoBytes (view.Str text) = ⊥
HasNoBytes (view.Bind interface version id) = ⊥
HasNoBytes (view.Array content) = ⊥
HasNoBytes _ = Unit {0}
