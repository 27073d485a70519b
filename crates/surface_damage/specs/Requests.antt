-- Requests that concern surfaces, from Wayland's core protocol (wl_compositor.create_surface and
-- wl_surface), and what a list of them leaves: as it is kept, and where no commit is forgotten.
use Rattle.std.specs.Prelude.{ℕ, ℤ, List, [], ◌∷◌, Option}
use Rattle.std.specs.Ordering.{nat_cmp}
use Rattle.std.specs.Map.{remove_entry}
use Rattle.std.specs.BTreeMap.{is_at, insert_entry}
use Rattle.surface_damage.specs.declared.rect.Damage.{Damage}
use Rattle.surface_damage.specs.declared.history.BufferKey.{BufferKey}
use Rattle.surface_damage.specs.declared.standing.Standing.{Standing}
use Rattle.surface_damage.specs.History.{SurfaceState}
use Rattle.surface_damage.specs.Steps.{fresh, with_attached, with_damage, with_scale}
use Rattle.surface_damage.specs.Steps.{with_transform, with_commit, next_commit, changed}

-- a request, for the surface of an id
pub data Request : Type 0 where
  Make : ℕ → Request
  Destroy : ℕ → Request
  Attach : ℕ → Option BufferKey → Request
  AddDamage : ℕ → Damage → Request
  SetScale : ℕ → ℤ → Request
  SetTransform : ℕ → ℤ → Request
  Commit : ℕ → Standing → Request

-- what is pending becomes the newest commit, and none is forgotten
abbrev pub with_every_commit : Standing → SurfaceState → SurfaceState
with_every_commit standing s =
    record s { pending = []; commits = next_commit s standing ∷ s.commits }

-- the surfaces after a request, where a commit does this to its surface: a surface that is made
-- takes the place of one of its id, and any other request for an id that has no surface changes
-- nothing
abbrev pub after_by : (Standing → SurfaceState → SurfaceState) → Request
    → List (ℕ × SurfaceState) → List (ℕ × SurfaceState)
after_by commit (Make id) all = insert_entry nat_cmp all id fresh
after_by commit (Destroy id) all = remove_entry (is_at (nat_cmp id)) all
after_by commit (Attach id buffer) all = changed id (with_attached buffer) all
after_by commit (AddDamage id damage) all = changed id (with_damage damage) all
after_by commit (SetScale id scale) all = changed id (with_scale scale) all
after_by commit (SetTransform id transform) all = changed id (with_transform transform) all
after_by commit (Commit id standing) all = changed id (commit standing) all

-- the surfaces that are kept after a request
abbrev pub after : Request → List (ℕ × SurfaceState) → List (ℕ × SurfaceState)
after request all = after_by with_commit request all

-- the surfaces after all of a list of requests, from none
abbrev pub after_all : (Standing → SurfaceState → SurfaceState) → List Request
    → List (ℕ × SurfaceState) → List (ℕ × SurfaceState)
after_all commit [] all = all
after_all commit (request ∷ requests) all = after_all commit requests (after_by commit request all)

-- what is kept after all of a list of requests
abbrev pub kept_after : List Request → List (ℕ × SurfaceState)
kept_after requests = after_all with_commit requests []

-- what it would be if no commit were forgotten
abbrev pub whole_after : List Request → List (ℕ × SurfaceState)
whole_after requests = after_all with_every_commit requests []
