-- How a run lies to another: before it, after it, or so that both together are one run. This
-- project's own: Wayland knows no such runs.
use Rattle.std.specs.Prelude.{ℕ, ◌<◌, ◌≤◌, List, min, max, length}
use Rattle.std.specs.List.{AllWithin}
use Rattle.block_intervals.specs.declared.run.Run.{Run}

-- `run` ends before `new` begins, and at least one block is between them
abbrev pub IsBefore : Run → Run → Type 0
IsBefore new run = run.end < new.first

-- `run` begins after `new` ends, and at least one block is between them
abbrev pub IsAfter : Run → Run → Type 0
IsAfter new run = new.end < run.first

-- the two overlap or adjoin
abbrev pub Touches : Run → Run → Type 0
Touches new run = (new.first ≤ run.end) × (run.first ≤ new.end)

-- the least run that has the blocks of both
abbrev pub spanning : Run → Run → Run
spanning one other =
    record { first = min one.first other.first; end = max one.end other.end }

-- the runs before `from` are before `new`, those from `to` on after it, and those between touch it
pub record AreTouched (runs : List Run) (new : Run) (from to : ℕ) : Type 0 where
  pub order : from ≤ to
  pub within : to ≤ length runs
  pub before : AllWithin (IsBefore new) runs 0 from
  pub between : AllWithin (Touches new) runs from to
  pub after : AllWithin (IsAfter new) runs to (length runs)
