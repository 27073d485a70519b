-- What each request does to a surface, from Wayland's core protocol (wl_surface), and to the
-- surface of an id among many.
use Rattle.std.specs.Prelude.{ℕ, ℤ, List, [], ◌∷◌, ◌++◌, take, Option, None, if◌then◌else◌}
use Rattle.std.specs.Option.{option_map}
use Rattle.std.specs.Ordering.{nat_cmp}
use Rattle.std.specs.Map.{lookup}
use Rattle.std.specs.BTreeMap.{is_at}
use Rattle.surface_damage.specs.declared.rect.Damage.{Damage}
use Rattle.surface_damage.specs.declared.history.BufferKey.{BufferKey}
use Rattle.surface_damage.specs.declared.history.Shown.{Shown}
use Rattle.surface_damage.specs.declared.standing.Standing.{Standing}
use Rattle.surface_damage.specs.declared.standing.Standing.TheVariants.{Nothing, Fits}
use Rattle.surface_damage.specs.declared.transform.Transform.TheVariants.{Normal}
use Rattle.surface_damage.specs.History.{SurfaceState, Committed}
use Rattle.surface_damage.specs.DueBytes.{geometry_of, backlog}
use Rattle.surface_damage.specs.Pixels.{scale_of, transform_of}

-- a surface just made
abbrev pub fresh : SurfaceState
fresh = record { attached = None; scale = 1; transform = Normal; pending = []; commits = [] }

abbrev pub with_attached : Option BufferKey → SurfaceState → SurfaceState
with_attached buffer s = record s { attached = buffer }

abbrev pub with_damage : Damage → SurfaceState → SurfaceState
with_damage damage s = record s { pending = s.pending ++ damage ∷ [] }

abbrev pub with_scale : ℤ → SurfaceState → SurfaceState
with_scale scale s = record s { scale = scale_of scale }

abbrev pub with_transform : ℤ → SurfaceState → SurfaceState
with_transform transform s = record s { transform = transform_of transform }

-- what a commit shows
abbrev pub content_of : SurfaceState → Standing → Option Shown
content_of s Nothing = None
content_of s (Fits b told) =
    option_map (λ key. record { buffer = key; geometry = geometry_of s b }) s.attached

-- the commit that comes next
abbrev pub next_commit : SurfaceState → Standing → Committed
next_commit s standing = record { content = content_of s standing; damage = s.pending }

-- what is pending becomes the newest commit; the oldest that is remembered is the last of the
-- backlog
abbrev pub with_commit : Standing → SurfaceState → SurfaceState
with_commit standing s =
    record s { pending = []; commits = take backlog (next_commit s standing ∷ s.commits) }

-- the surface of an id
abbrev pub find : ℕ → List (ℕ × SurfaceState) → Option SurfaceState
find id surfaces = lookup (is_at (nat_cmp id)) surfaces

-- the surface of an id after a step of its own; all others stay, and all do where the id has none
abbrev pub changed : ℕ → (SurfaceState → SurfaceState)
    → List (ℕ × SurfaceState) → List (ℕ × SurfaceState)
changed id step [] = []
changed id step (one ∷ others) =
    if is_at (nat_cmp id) one.0
    then (one.0, step one.1) ∷ others
    else one ∷ changed id step others
