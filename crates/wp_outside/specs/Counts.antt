-- What it means that a count of faults rose in a call. This project's own: the Wayland standard
-- speaks of no such count.
use Rattle.std.specs.Prelude.{ℕ, ◌+◌, ◌-◌, ◌^◌, ◌≤◌, min}

-- the count rose by one or more; a count that stands at the last value of 64 bits counts as having
-- risen
abbrev pub Rose : ℕ → ℕ → Type 0
Rose before now = min (before + 1) (2 ^ 64 - 1) ≤ now
