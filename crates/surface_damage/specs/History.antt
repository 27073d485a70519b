-- What a surface shows and remembers, from Wayland's core protocol (wl_surface.attach, damage,
-- damage_buffer, set_buffer_scale, set_buffer_transform and commit): pending state, and what
-- earlier commits showed.
use Rattle.std.specs.Prelude.{ℕ, Bool, false, ◌&&◌, ◌==◌, List, Option, None, Some}
use Rattle.std.specs.Ordering.{int_eq}
use Rattle.surface_damage.specs.declared.rect.Damage.{Damage}
use Rattle.surface_damage.specs.declared.history.BufferKey.{BufferKey}
use Rattle.surface_damage.specs.declared.history.Geometry.{Geometry}
use Rattle.surface_damage.specs.declared.history.Shown.{Shown}
use Rattle.surface_damage.specs.declared.transform.Transform.{Transform}
use Rattle.surface_damage.specs.declared.transform.Transform.TheVariants.{Normal, Turned90}
use Rattle.surface_damage.specs.declared.transform.Transform.TheVariants.{Turned180, Turned270}
use Rattle.surface_damage.specs.declared.transform.Transform.TheVariants.{Flipped, FlippedTurned90}
use Rattle.surface_damage.specs.declared.transform.Transform.TheVariants.{FlippedTurned180}
use Rattle.surface_damage.specs.declared.transform.Transform.TheVariants.{FlippedTurned270}

-- a commit: the buffer that it showed and its geometry, none where it showed none that lived and
-- fitted; and its damage
pub record Committed : Type 0 where
  pub content : Option Shown
  pub damage : List Damage

-- a surface: what is pending or stays, and its commits, the newest first
pub record SurfaceState : Type 0 where
  pub attached : Option BufferKey
  pub scale : ℕ
  pub transform : Transform
  pub pending : List Damage
  pub commits : List Committed

-- the number of a transform in wl_output.transform
abbrev pub number_of : Transform → ℕ
number_of Normal = 0
number_of Turned90 = 1
number_of Turned180 = 2
number_of Turned270 = 3
number_of Flipped = 4
number_of FlippedTurned90 = 5
number_of FlippedTurned180 = 6
number_of FlippedTurned270 = 7

-- the same scale, transform, width and height
abbrev pub same_geometry : Geometry → Geometry → Bool
same_geometry one other =
    (one.scale == other.scale)
    && ((number_of one.transform == number_of other.transform)
    && (int_eq one.width other.width && int_eq one.height other.height))

-- a commit showed this buffer
abbrev pub shows : BufferKey → Option Shown → Bool
shows key None = false
shows key (Some shown) = shown.buffer.0 == key.0

-- a commit had this geometry
abbrev pub has_geometry : Geometry → Option Shown → Bool
has_geometry geometry None = false
has_geometry geometry (Some shown) = same_geometry geometry shown.geometry
