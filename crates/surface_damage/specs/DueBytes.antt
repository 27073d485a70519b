-- Which bytes of a buffer's file are due at a commit of its surface: what the commit shows that the
-- file's reader may not have. Damage and commits are those of Wayland's core protocol (wl_surface);
-- the backlog of seven commits is this project's own.
use Rattle.std.specs.Prelude.{ℕ, ◌+◌, ◌++◌, Bool, true, false, ◌&&◌, nat_lt, unsigned_abs}
use Rattle.std.specs.Prelude.{List, take, position, Option, None, Some, IsTrue, if◌then◌else◌}
use Rattle.std.specs.List.{list_any, list_all, flat_map}
use Rattle.block_intervals.specs.Sets.{lies_within}
use Rattle.shm_pools.specs.declared.buffers.Buffer.{Buffer}
use Rattle.shm_pools.specs.Buffers.{has_pixels, fits_in}
use Rattle.surface_damage.specs.declared.rect.Damage.{Damage}
use Rattle.surface_damage.specs.declared.history.BufferKey.{BufferKey}
use Rattle.surface_damage.specs.declared.history.Geometry.{Geometry}
use Rattle.surface_damage.specs.declared.standing.Standing.{Standing}
use Rattle.surface_damage.specs.declared.standing.Standing.TheVariants.{Nothing, Fits}
use Rattle.surface_damage.specs.History.{SurfaceState, Committed, shows, has_geometry}
use Rattle.surface_damage.specs.Images.{image_of, in_pixels}
use Rattle.surface_damage.specs.Pixels.{covers}

-- a buffer that was shown so many commits ago, and no longer ago, is due in part alone
abbrev pub backlog : ℕ
backlog = 7

-- the geometry of a commit that shows this buffer
abbrev pub geometry_of : SurfaceState → Buffer → Geometry
geometry_of s b = record {
  scale = s.scale;
  transform = s.transform;
  width = b.width;
  height = b.height;
}

-- all of these commits had the geometry
abbrev pub all_had : Geometry → List Committed → Bool
all_had geometry commits = list_all (λ c. has_geometry geometry c.content) commits

-- of the last earlier commit with the buffer, how many commits there were since: only where it is
-- one of the last seven, and it and all commits since had this geometry
abbrev pub if_enough : Geometry → List Committed → Option ℕ → Option ℕ
if_enough geometry commits None = None
if_enough geometry commits (Some back) =
    if nat_lt back backlog && all_had geometry (take (back + 1) commits) then Some back else None

abbrev pub commits_since : SurfaceState → BufferKey → Geometry → Option ℕ
commits_since s key geometry =
    if_enough geometry s.commits (position (λ c. shows key c.content) s.commits)

-- the damage of this commit and of the `back` commits before it
abbrev pub damage_since : SurfaceState → ℕ → List Damage
damage_since s back = s.pending ++ flat_map (λ c. c.damage) (take back s.commits)

-- some of the damage covers the pixel of the buffer
abbrev pub is_covered : SurfaceState → Buffer → List Damage → ℕ → ℕ → Bool
is_covered s b damages bx by =
    list_any
    (λ d. covers d s.scale s.transform (unsigned_abs b.width) (unsigned_abs b.height) bx by)
    damages

-- the pixel is due: every one, where damage does not say enough
abbrev pub pixel_due_since : SurfaceState → Buffer → Option ℕ → ℕ → ℕ → Bool
pixel_due_since s b None bx by = true
pixel_due_since s b (Some back) bx by = is_covered s b (damage_since s back) bx by

abbrev pub pixel_is_due : SurfaceState → BufferKey → Buffer → ℕ → ℕ → Bool
pixel_is_due s key b bx by = pixel_due_since s b (commits_since s key (geometry_of s b)) bx by

-- the byte is due where the buffer fits: of another format, every byte from its offset on
abbrev pub byte_is_due : SurfaceState → BufferKey → Buffer → ℕ → ℕ → Bool
byte_is_due s key b told at =
    if has_pixels b.format
    then in_pixels (image_of b) (pixel_is_due s key b) at
    else lies_within (unsigned_abs b.offset) told at

abbrev pub due_if_attached : SurfaceState → Option BufferKey → Buffer → ℕ → ℕ → Bool
due_if_attached s None b told at = false
due_if_attached s (Some key) b told at = byte_is_due s key b told at

-- the byte is due at the commit that comes next
abbrev pub is_due : SurfaceState → Standing → ℕ → Bool
is_due s Nothing at = false
is_due s (Fits b told) at = due_if_attached s s.attached b told at

-- the size that the file was told to have
abbrev pub told_of : Standing → ℕ
told_of Nothing = 0
told_of (Fits b told) = told

-- a buffer stands where it fits
abbrev pub Stands : Standing → Type 0
Stands Nothing = Unit {0}
Stands (Fits b told) = IsTrue (fits_in b told)
