-- Which blocks of a file a commit or a keymap fills, and what each request does to a sending half's
-- tables: wl_shm_pool, wl_surface and wl_keyboard of wayland.xml. That blocks are filled is this
-- project's own.
use Rattle.std.specs.Prelude.{ℕ, ◌+◌, if◌then◌else◌, ◌==◌, List, [], ◌∷◌, pos, Option, Some, None}
use Rattle.std.specs.Prelude.{option_map}
use Rattle.std.specs.Ordering.{nat_cmp}
use Rattle.std.specs.BTreeMap.{insert_entry, is_at}
use Rattle.std.specs.Map.{remove_entry}
use Rattle.block_intervals.specs.declared.run.Run.{Run}
use Rattle.shm_pools.specs.declared.buffers.Buffer.{Buffer}
use Rattle.surface_damage.specs.declared.history.BufferKey.{BufferKey}
use Rattle.surface_damage.specs.declared.rect.Damage.TheVariants.{InBuffer, InSurface}
use Rattle.surface_damage.specs.declared.standing.Standing.{Standing}
use Rattle.surface_damage.specs.declared.standing.Standing.TheVariants.{Nothing, Fits}
use Rattle.surface_damage.specs.Filled.{blocks_of, filled_at}
use Rattle.surface_damage.specs.History.{SurfaceState}
use Rattle.surface_damage.specs.Steps.{fresh, with_attached, with_damage, with_scale}
use Rattle.surface_damage.specs.Steps.{with_transform, with_commit, find, changed}
use Rattle.wl_objects.specs.Entries.{Tracked}
use Rattle.half_model.specs.declared.deeds.Deed.{Deed}
use Rattle.half_model.specs.declared.deeds.Deed.TheVariants.{MakePool, MakeBuffer, MakeSurface}
use Rattle.half_model.specs.declared.deeds.Deed.TheVariants.{EndSurface, Attach, DamageSurface}
use Rattle.half_model.specs.declared.deeds.Deed.TheVariants.{DamageBuffer, Scale, Transform, Commit}
use Rattle.half_model.specs.declared.deeds.Deed.TheVariants.{Keymap}
use Rattle.half_model.specs.declared.roles.Role.TheVariants as roles
use Rattle.half_model.specs.declared.roles.SentFile.{SentFile}
use Rattle.shm_pools.specs.Buffers.{fits_in}
use Rattle.half_model.specs.Shm.{ShmState, Passing, Made, file_passed, with_role, pool_at}
use Rattle.half_model.specs.Shm.{buffer_at, current, told_at}
use Rattle.mirror_pools.specs.Sizes.{ToldSizes}

-- ---- the filled blocks

-- a file, and the runs of its blocks that are filled
pub record Filling : Type 0 where
  pub file : SentFile
  pub runs : List Run

-- nothing is filled, of no file
abbrev pub no_file : SentFile
no_file = record { rid = pos 0; number = pos 0 }

abbrev pub no_filling : Filling
no_filling = record { file = no_file; runs = [] }

-- a buffer as it stands when its surface is committed
abbrev pub standing : ToldSizes → Option Made → Standing
standing told None = Nothing
standing told (Some made) =
    if fits_in made.shape (told_at made.file.rid told)
    then Fits made.shape (told_at made.file.rid told) else Nothing

abbrev pub shown_by : Option Made → SentFile
shown_by None = no_file
shown_by (Some made) = made.file

-- the filled blocks of a commit of this surface
abbrev pub filled_by : ToldSizes → Option Made → Option SurfaceState → Filling
filled_by told made None = no_filling
filled_by told made (Some s) =
    record { file = shown_by made; runs = filled_at s (standing told made) }

-- all blocks of a size
abbrev pub whole : ℕ → List Run
whole size = if blocks_of size == 0 then [] else record { first = 0; end = blocks_of size } ∷ []

abbrev pub filled_whole : ToldSizes → Option SentFile → Filling
filled_whole told None = no_filling
filled_whole told (Some file) = record { file = file; runs = whole (told_at file.rid told) }

-- the blocks that a message fills, where the told sizes are those with this message's own
abbrev pub filling_of : Tracked → ℕ → Deed → Option Passing → ShmState → Filling
filling_of objects object Commit passing shm =
    filled_by shm.told (current objects object shm) (find object shm.surfaces)
filling_of objects object (Keymap size) passing shm = filled_whole shm.told (file_passed passing)
filling_of objects object deed passing shm = no_filling

-- ---- what a message leaves

abbrev pub with_pool : ℕ → Option SentFile → ShmState → ShmState
with_pool pool None shm = shm
with_pool pool (Some file) shm = with_role pool (roles.Pool file) shm

-- one more buffer, with a key of its own
abbrev pub counted_key : ShmState → ShmState
counted_key shm = record shm { keys = shm.keys + 1 }

abbrev pub with_buffer : ℕ → Buffer → Option SentFile → ShmState → ShmState
with_buffer id shape None shm = shm
with_buffer id shape (Some file) shm =
    counted_key (with_role id (roles.Buffer (record { 0 = shm.keys }) file shape) shm)

abbrev pub on_surfaces : (List (ℕ × SurfaceState) → List (ℕ × SurfaceState)) → ShmState → ShmState
on_surfaces step shm = record shm { surfaces = step shm.surfaces }

abbrev pub on_surface : ℕ → (SurfaceState → SurfaceState) → ShmState → ShmState
on_surface id step shm = on_surfaces (changed id step) shm

-- a surface just made, in the place of an earlier one of its id
abbrev pub with_surface : ℕ → ShmState → ShmState
with_surface id shm =
    on_surfaces (λ all. insert_entry nat_cmp all id fresh) (with_role id (roles.Surface 0) shm)

abbrev pub key_of : Option Made → Option BufferKey
key_of made = option_map (λ it. it.key) made

-- the tables after a message for this object
abbrev pub after_deed : Tracked → ℕ → Deed → Option Passing → ShmState → ShmState
after_deed objects object (MakePool pool size) passing shm =
    with_pool pool (file_passed passing) shm
after_deed objects object (MakeBuffer buffer shape) passing shm =
    with_buffer buffer shape (pool_at object shm) shm
after_deed objects object (MakeSurface surface) passing shm = with_surface surface shm
after_deed objects object EndSurface passing shm =
    on_surfaces (remove_entry (is_at (nat_cmp object))) shm
after_deed objects object (Attach buffer) passing shm =
    on_surface object (with_attached (key_of (buffer_at objects buffer shm)))
    (with_role object (roles.Surface buffer) shm)
after_deed objects object (DamageSurface rect) passing shm =
    on_surface object (with_damage (InSurface rect)) shm
after_deed objects object (DamageBuffer rect) passing shm =
    on_surface object (with_damage (InBuffer rect)) shm
after_deed objects object (Scale scale) passing shm = on_surface object (with_scale scale) shm
after_deed objects object (Transform transform) passing shm =
    on_surface object (with_transform transform) shm
after_deed objects object Commit passing shm =
    on_surface object (with_commit (standing shm.told (current objects object shm))) shm
after_deed objects object deed passing shm = shm
