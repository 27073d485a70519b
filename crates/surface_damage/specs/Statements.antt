-- Laws of damage (Wayland's wl_surface.damage, damage_buffer and commit): what the filled blocks of
-- a commit hold, what a look-up finds behind a request, and that no commit is forgotten that could
-- matter.
use Rattle.std.specs.Prelude.{◌≡◌, ℕ, ◌/◌, ◌≤◌, ◌==◌, true, if◌then◌else◌}
use Rattle.std.specs.Prelude.{List, [], length, map, take, None, Some}
use Rattle.std.specs.Option.{option_map}
use Rattle.std.specs.Ordering.{nat_cmp}
use Rattle.std.specs.List.Sorted.{IsStrictlySortedBy}
use Rattle.std.specs.Map.{keys_of, remove_entry}
use Rattle.std.specs.BTreeMap.{is_at, insert_entry}
use Rattle.block_intervals.specs.Sets.{has}
use Rattle.surface_damage.specs.declared.standing.Standing.{Standing}
use Rattle.surface_damage.specs.History.{SurfaceState}
use Rattle.surface_damage.specs.DueBytes.{is_due, told_of, Stands}
use Rattle.surface_damage.specs.Filled.{runs_due, most_runs, filled_at, filled_for, IsFilling}
use Rattle.surface_damage.specs.Images.{holds}
use Rattle.surface_damage.specs.Requests.{Request, after, kept_after, whole_after}
use Rattle.surface_damage.specs.Sound.{IsSound}
use Rattle.surface_damage.specs.Steps.{find, changed}

-- every due byte lies in a filled block
abbrev pub DueBytesAreFilled : Type 0
DueBytesAreFilled =
    (s : SurfaceState) (standing : Standing) (at : ℕ) → Stands standing
    → is_due s standing at ≡ true → has (at / 64) (filled_at s standing) ≡ true

-- unless the runs were too many, every filled block holds a due byte
abbrev pub FilledBlocksAreDue : Type 0
FilledBlocksAreDue =
    (s : SurfaceState) (standing : Standing) (block : ℕ)
    → length (runs_due (is_due s standing) (told_of standing)) ≤ most_runs
    → has block (filled_at s standing) ≡ true → holds (is_due s standing) block ≡ true

-- the filled blocks ascend within the told size, in few runs
abbrev pub FilledBlocksAscend : Type 0
FilledBlocksAscend =
    (s : SurfaceState) (standing : Standing) → IsFilling (filled_at s standing) (told_of standing)

-- a surface with its newest seven commits alone
abbrev pub newest_seven : SurfaceState → SurfaceState
newest_seven s = record s { commits = take 7 s.commits }

-- after every list of requests: what is kept is what would be there with no commit forgotten, but
-- for all commits of a surface behind its newest seven; and with both a commit fills the same
-- blocks
pub record NewestSuffice : Type 0 where
  pub kept : (requests : List Request)
      → kept_after requests ≡ map (λ one. (one.0, newest_seven one.1)) (whole_after requests)
  pub filled : (requests : List Request) (id : ℕ) (standing : Standing)
      → filled_for (find id (kept_after requests)) standing
      ≡ filled_for (find id (whole_after requests)) standing

-- what a look-up finds behind each kind of step: at its id the step's own surface, else what it
-- found before
pub record FindAfter : Type 0 where
  pub made : (id other : ℕ) (s : SurfaceState) (all : List (ℕ × SurfaceState))
      → find other (insert_entry nat_cmp all id s)
      ≡ (if id == other then Some s else find other all)
  pub destroyed : (id other : ℕ) (all : List (ℕ × SurfaceState))
      → IsStrictlySortedBy nat_cmp (keys_of all)
      → find other (remove_entry (is_at (nat_cmp id)) all)
      ≡ (if id == other then None else find other all)
  pub changed : (id other : ℕ) (step : SurfaceState → SurfaceState) (all : List (ℕ × SurfaceState))
      → find other (changed id step all)
      ≡ (if id == other then option_map step (find other all) else find other all)

-- what is sound is so at first and stays so
pub record SoundLasts : Type 0 where
  pub none : IsSound []
  pub after : (request : Request) (all : List (ℕ × SurfaceState))
      → IsSound all → IsSound (after request all)
