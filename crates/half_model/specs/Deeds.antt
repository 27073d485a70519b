-- What a message does that matters to a sending half: the requests of wl_shm, wl_shm_pool,
-- wl_compositor and wl_surface and the event wl_keyboard.keymap, from wayland.xml.
use Rattle.std.specs.Prelude.{ℕ, Bool, true, false, List, [], ◌∷◌, ◌==◌, if◌then◌else◌}
use Rattle.wl_wire.specs.declared.arguments.Arg.{Arg}
use Rattle.wl_wire.specs.declared.arguments.Arg.TheVariants.{Int, Uint, Object, NewId, Handle}
use Rattle.wl_tables.specs.declared.interface.Interface.{Interface}
use Rattle.wl_tables.specs.declared.interface.Interface.TheVariants.{WlShm, WlShmPool, WlCompositor}
use Rattle.wl_tables.specs.declared.interface.Interface.TheVariants.{WlSurface, WlKeyboard}
use Rattle.wl_tables.specs.declared.way.Way.{Way}
use Rattle.wl_tables.specs.declared.way.Way.TheVariants.{Request, Event}
use Rattle.wl_objects.specs.declared.passed.Passed.{Passed}
use Rattle.half_model.specs.declared.deeds.Deed.{Deed}
use Rattle.half_model.specs.declared.deeds.Deed.TheVariants.{MakePool, Resize, MakeBuffer}
use Rattle.half_model.specs.declared.deeds.Deed.TheVariants.{MakeSurface, EndSurface, Attach}
use Rattle.half_model.specs.declared.deeds.Deed.TheVariants.{DamageSurface, DamageBuffer, Scale}
use Rattle.half_model.specs.declared.deeds.Deed.TheVariants.{Transform, Commit, Keymap, Other}

-- ---- by the arguments

abbrev pub pool_made : List Arg → Deed
pool_made (NewId pool ∷ Handle ∷ Int size ∷ []) = MakePool pool size
pool_made args = Other

abbrev pub resized : List Arg → Deed
resized (Int size ∷ []) = Resize size
resized args = Other

abbrev pub buffer_made : List Arg → Deed
buffer_made (NewId buffer ∷ Int offset ∷ Int width ∷ Int height ∷ Int stride ∷ Uint format ∷ []) =
    MakeBuffer buffer
    (record { offset = offset; width = width; height = height; stride = stride; format = format })
buffer_made args = Other

abbrev pub surface_made : List Arg → Deed
surface_made (NewId surface ∷ []) = MakeSurface surface
surface_made args = Other

abbrev pub attached : List Arg → Deed
attached (Object buffer ∷ Int x ∷ Int y ∷ []) = Attach buffer
attached args = Other

abbrev pub surface_damaged : List Arg → Deed
surface_damaged (Int x ∷ Int y ∷ Int w ∷ Int h ∷ []) =
    DamageSurface (record { x = x; y = y; w = w; h = h })
surface_damaged args = Other

abbrev pub buffer_damaged : List Arg → Deed
buffer_damaged (Int x ∷ Int y ∷ Int w ∷ Int h ∷ []) =
    DamageBuffer (record { x = x; y = y; w = w; h = h })
buffer_damaged args = Other

abbrev pub transformed : List Arg → Deed
transformed (Int transform ∷ []) = Transform transform
transformed args = Other

abbrev pub scaled : List Arg → Deed
scaled (Int scale ∷ []) = Scale scale
scaled args = Other

abbrev pub keymap_given : List Arg → Deed
keymap_given (Uint format ∷ Handle ∷ Uint size ∷ []) = Keymap size
keymap_given args = Other

-- ---- by the opcodes

abbrev pub deed_of_surface : ℕ → List Arg → Deed
deed_of_surface opcode args =
    if opcode == 0 then EndSurface else
    if opcode == 1 then attached args else
    if opcode == 2 then surface_damaged args else
    if opcode == 6 then Commit else
    if opcode == 7 then transformed args else
    if opcode == 8 then scaled args else
    if opcode == 9 then buffer_damaged args else Other

abbrev pub deed_of_pool : ℕ → List Arg → Deed
deed_of_pool opcode args =
    if opcode == 0 then buffer_made args else
    if opcode == 2 then resized args else Other

-- what a request does, and what an event does, by the interface of the object
abbrev pub deed_of_request : Interface → ℕ → List Arg → Deed
deed_of_request WlShm opcode args = if opcode == 0 then pool_made args else Other
deed_of_request WlShmPool opcode args = deed_of_pool opcode args
deed_of_request WlCompositor opcode args = if opcode == 0 then surface_made args else Other
deed_of_request WlSurface opcode args = deed_of_surface opcode args
deed_of_request interface opcode args = Other

abbrev pub deed_of_event : Interface → ℕ → List Arg → Deed
deed_of_event WlKeyboard opcode args = if opcode == 0 then keymap_given args else Other
deed_of_event interface opcode args = Other

-- what a message does, as tracking found it
abbrev pub deed_of : Way → Passed → Deed
deed_of Request it = deed_of_request it.interface it.opcode it.args
deed_of Event it = deed_of_event it.interface it.opcode it.args

-- such a message takes the oldest waiting note
abbrev pub takes_note : Deed → Bool
takes_note Commit = true
takes_note (Keymap size) = true
takes_note deed = false
