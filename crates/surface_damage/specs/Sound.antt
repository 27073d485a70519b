-- What holds of the surfaces of every side, whatever was requested: this project's own, of
-- Wayland's wl_surface.
use Rattle.std.specs.Prelude.{ℕ, ◌<◌, ◌≤◌, List, length}
use Rattle.std.specs.Ordering.{nat_cmp}
use Rattle.std.specs.List.{All}
use Rattle.std.specs.List.Sorted.{IsStrictlySortedBy}
use Rattle.std.specs.Map.{keys_of, values_of}
use Rattle.surface_damage.specs.DueBytes.{backlog}
use Rattle.surface_damage.specs.History.{SurfaceState}

-- the scale is at least 1, and no more commits are remembered than can matter
pub record IsSoundSurface (s : SurfaceState) : Type 0 where
  pub scaled : 0 < s.scale
  pub few : length s.commits ≤ backlog

-- the ids rise, so that each has one surface, and each surface is sound
pub record IsSound (surfaces : List (ℕ × SurfaceState)) : Type 0 where
  pub rising : IsStrictlySortedBy nat_cmp (keys_of surfaces)
  pub each : All IsSoundSurface (values_of surfaces)
