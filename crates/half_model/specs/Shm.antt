-- What a sending half knows of its peer's shared memory, from wayland.xml: the told sizes of the
-- files that were passed, what was last made at each id, and the surfaces.
use Rattle.std.specs.Prelude.{ℕ, Bool, true, false, ◌||◌, ◌==◌, nat_lt, if◌then◌else◌, List, [], ℤ}
use Rattle.std.specs.Prelude.{pos, negsuc, Option, Some, None, unwrap_or, option_map}
use Rattle.std.specs.Prelude.{option_and_then}
use Rattle.std.specs.Ordering.{nat_cmp}
use Rattle.std.specs.BTreeMap.{insert_entry, is_at}
use Rattle.std.specs.Map.{lookup}
use Rattle.wp_outside.specs.declared.kinds.HandleKind.{HandleKind}
use Rattle.wp_outside.specs.declared.kinds.HandleKind.TheVariants.{File, PipeWrite}
use Rattle.wl_tables.specs.declared.interface.Interface.{Interface}
use Rattle.wl_tables.specs.declared.interface.Interface.TheVariants.{WlBuffer}
use Rattle.wl_objects.specs.Entries.{Tracked, live_at}
use Rattle.handle_table.specs.declared.handles.Handle.{Handle}
use Rattle.handle_table.specs.declared.handles.Seat.{Seat}
use Rattle.handle_table.specs.Table.{Table, seat_for}
use Rattle.shm_pools.specs.declared.buffers.Buffer.{Buffer}
use Rattle.surface_damage.specs.declared.history.BufferKey.{BufferKey}
use Rattle.surface_damage.specs.History.{SurfaceState}
use Rattle.surface_damage.specs.Steps.{find}
use Rattle.half_model.specs.declared.deeds.Deed.{Deed}
use Rattle.half_model.specs.declared.deeds.Deed.TheVariants.{MakePool, Resize, Keymap}
use Rattle.half_model.specs.declared.roles.Role.{Role}
use Rattle.half_model.specs.declared.roles.Role.TheVariants as roles
use Rattle.half_model.specs.declared.roles.SentFile.{SentFile}
use Rattle.mirror_pools.specs.Sizes.{ToldSizes, size_at, with_size}

pub record ShmState : Type 0 where
  pub told : ToldSizes
  -- what was last made at each id: an object that was destroyed since keeps its place
  pub roles : List (ℕ × Role)
  -- how many buffers were made
  pub keys : ℕ
  pub surfaces : List (ℕ × SurfaceState)

abbrev pub no_shm : ShmState
no_shm = record { told = []; roles = []; keys = 0; surfaces = [] }

-- ---- the handle of a message

-- a handle with the rid that it is passed with, and whether it is passed for the first time
pub record Passing : Type 0 where
  pub handle : Handle
  pub rid : ℤ
  pub is_new : Bool

abbrev pub passing_at : Handle → Seat → Passing
passing_at handle at = record { handle = handle; rid = at.rid; is_new = at.is_new }

-- a handle with its rid, while there is a rid for it
abbrev pub passing_of : Table → Handle → Option Passing
passing_of handles handle = option_map (passing_at handle) (seat_for handles handle)

abbrev pub file_of : Passing → SentFile
file_of it = record { rid = it.rid; number = it.handle.number }

-- the file that a handle leads to, if it leads to one
abbrev pub file_by : HandleKind → Passing → Option SentFile
file_by File it = Some (file_of it)
file_by PipeWrite it = None

abbrev pub file_passed : Option Passing → Option SentFile
file_passed passing = option_and_then (λ it. file_by it.handle.kind it) passing

-- ---- what ids stand for

abbrev pub role_at : ℕ → ShmState → Option Role
role_at id shm = lookup (is_at (nat_cmp id)) shm.roles

abbrev pub with_role : ℕ → Role → ShmState → ShmState
with_role id role shm = record shm { roles = insert_entry nat_cmp shm.roles id role }

abbrev pub pool_in : Option Role → Option SentFile
pool_in (Some (roles.Pool file)) = Some file
pool_in role = None

-- the file of the pool that was made at an id
abbrev pub pool_at : ℕ → ShmState → Option SentFile
pool_at id shm = pool_in (role_at id shm)

-- a buffer as it was made
pub record Made : Type 0 where
  pub key : BufferKey
  pub file : SentFile
  pub shape : Buffer

abbrev pub made_in : Option Role → Option Made
made_in (Some (roles.Buffer key file shape)) =
    Some (record { key = key; file = file; shape = shape })
made_in role = None

abbrev pub is_buffer : Option Interface → Bool
is_buffer (Some WlBuffer) = true
is_buffer interface = false

-- the buffer that lives at an id
abbrev pub buffer_at : Tracked → ℕ → ShmState → Option Made
buffer_at objects id shm = if is_buffer (live_at objects id) then made_in (role_at id shm) else None

-- the id that was attached last to the surface of an id
abbrev pub id_in : Option Role → ℕ
id_in (Some (roles.Surface id)) = id
id_in role = 0

abbrev pub attached_id : ℕ → ShmState → ℕ
attached_id surface shm = id_in (role_at surface shm)

abbrev pub is_key : Option BufferKey → BufferKey → Bool
is_key None other = false
is_key (Some key) other = key.0 == other.0

abbrev pub if_attached : Option BufferKey → Option Made → Option Made
if_attached key None = None
if_attached key (Some made) = if is_key key made.key then Some made else None

-- the buffer that a surface shows at a commit, if it lives: the one that was made when it was
-- attached, and no later one of its id
abbrev pub current_in : Tracked → ℕ → ShmState → Option SurfaceState → Option Made
current_in objects surface shm None = None
current_in objects surface shm (Some s) =
    if_attached s.attached (buffer_at objects (attached_id surface shm) shm)

abbrev pub current : Tracked → ℕ → ShmState → Option Made
current objects surface shm = current_in objects surface shm (find surface shm.surfaces)

-- ---- told sizes

abbrev pub told_at : ℤ → ToldSizes → ℕ
told_at rid told = unwrap_or (size_at rid told) 0

-- a size as a message says it: a negative one counts as 0
abbrev pub said : ℤ → ℕ
said (pos size) = size
said (negsuc size) = 0

-- a message says a size of a file, which is passed for the first time, or was passed before
pub record Tell : Type 0 where
  pub file : SentFile
  pub size : ℕ
  pub is_new : Bool

-- the size that a message with a file's handle says
abbrev pub size_said : Deed → ℕ
size_said (MakePool pool size) = said size
size_said (Keymap size) = size
size_said deed = 0

abbrev pub tell_passed : HandleKind → Deed → Passing → Option Tell
tell_passed File deed it =
    Some (record { file = file_of it; size = size_said deed; is_new = it.is_new })
tell_passed PipeWrite deed it = None

-- the size that a message without a handle says, of a pool's file
abbrev pub tell_again : ℕ → Option SentFile → Option Tell
tell_again size file = option_map (λ it. record { file = it; size = size; is_new = false }) file

abbrev pub tell_resized : ShmState → ℕ → Deed → Option Tell
tell_resized shm object (Resize size) = tell_again (said size) (pool_at object shm)
tell_resized shm object deed = None

-- which size a message for this object says, with the handle that it carries
abbrev pub told_by : ShmState → ℕ → Deed → Option Passing → Option Tell
told_by shm object deed None = tell_resized shm object deed
told_by shm object deed (Some it) = tell_passed it.handle.kind deed it

-- the told size grows, which is the greatest size that was said
abbrev pub grows : Tell → ToldSizes → Bool
grows tell told = tell.is_new || nat_lt (told_at tell.file.rid told) tell.size

abbrev pub after_tell : Option Tell → ToldSizes → ToldSizes
after_tell None told = told
after_tell (Some tell) told =
    if grows tell told then with_size tell.file.rid tell.size told else told
