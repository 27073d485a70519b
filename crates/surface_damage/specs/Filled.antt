-- The blocks of 64 bytes that a commit fills: those that hold a due byte, or where these make too
-- many runs, every block from the first of them to the last. Blocks and the bound on runs are this
-- project's own; a commit is one of Wayland's core protocol (wl_surface.commit).
use Rattle.std.specs.Prelude.{ℕ, ◌+◌, ◌/◌, ◌≤◌, Bool, List, [], length, Option, None, Some}
use Rattle.std.specs.Prelude.{if◌then◌else◌, nat_le}
use Rattle.std.specs.List.{filter}
use Rattle.block_intervals.specs.declared.run.Run.{Run}
use Rattle.block_intervals.specs.Sets.{Rises, EndsBy, runs_of, hull_of}
use Rattle.block_intervals.specs.Statements.{counted}
use Rattle.surface_damage.specs.declared.standing.Standing.{Standing}
use Rattle.surface_damage.specs.History.{SurfaceState}
use Rattle.surface_damage.specs.DueBytes.{is_due, told_of}
use Rattle.surface_damage.specs.Images.{holds}

-- how many blocks the bytes of a file begin
abbrev pub blocks_of : ℕ → ℕ
blocks_of size = (size + 63) / 64

-- more runs than these are carried as one
abbrev pub most_runs : ℕ
most_runs = 1024

-- no more runs than that, else one over all
abbrev pub few : List Run → List Run
few runs = if nat_le (length runs) most_runs then runs else hull_of runs

-- the runs of the blocks that hold a due byte, in a file of this size
abbrev pub runs_due : (ℕ → Bool) → ℕ → List Run
runs_due due size = runs_of (filter (holds due) (counted 0 (blocks_of size)))

-- the filled blocks of a file of this size with these due bytes
abbrev pub filled : (ℕ → Bool) → ℕ → List Run
filled due size = few (runs_due due size)

-- the filled blocks of the commit of a surface that comes next
abbrev pub filled_at : SurfaceState → Standing → List Run
filled_at s standing = filled (is_due s standing) (told_of standing)

-- the same where the surface is there, and none where it is not
abbrev pub filled_for : Option SurfaceState → Standing → List Run
filled_for None standing = []
filled_for (Some s) standing = filled_at s standing

-- what holds of all filled blocks: they ascend within the told size, in few runs
pub record IsFilling (runs : List Run) (told : ℕ) : Type 0 where
  pub rises : Rises runs
  pub ends : EndsBy (blocks_of told) runs
  pub few : length runs ≤ most_runs
