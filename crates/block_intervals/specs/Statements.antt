-- Laws of sets of blocks, which are this project's own: each set has one list of runs, where these
-- end, and what their hull is.
use Rattle.std.specs.Prelude.{◌≡◌, ◌↔◌, ℕ, zero, suc, ◌+◌, ◌<◌, ◌≤◌, Bool, true, ◌&&◌, nat_lt}
use Rattle.std.specs.Prelude.{List, [], ◌∷◌}
use Rattle.std.specs.List.{filter}
use Rattle.block_intervals.specs.declared.run.Run.{Run}
use Rattle.block_intervals.specs.Sets.{has, Rises, EndsBy, hull_of, runs_of}

-- the whole numbers from `from` on, `count` of them
abbrev pub counted : ℕ → ℕ → List ℕ
counted from zero = []
counted from (suc count) = from ∷ counted (from + 1) count

-- two rising lists of runs with the same blocks are one list
abbrev pub RunsAreUnique : Type 0
RunsAreUnique =
    (these those : List Run) → Rises these → Rises those
    → ((block : ℕ) → has block these ≡ has block those) → these ≡ those

-- rising runs that have just the blocks below `count` which a test accepts are the runs of the
-- blocks that it accepts
abbrev pub RunsOfAccepted : Type 0
RunsOfAccepted =
    (runs : List Run) (test : ℕ → Bool) (count : ℕ) → Rises runs
    → ((block : ℕ) → has block runs ≡ (nat_lt block count && test block))
    → runs ≡ runs_of (filter test (counted 0 count))

-- the runs of the blocks below `count` that a test accepts rise and end by `count`
abbrev pub RunsOfLieBelow : Type 0
RunsOfLieBelow =
    (test : ℕ → Bool) (count : ℕ)
    → Rises (runs_of (filter test (counted 0 count)))
    × EndsBy count (runs_of (filter test (counted 0 count)))

-- runs end by a number just where every block of the set is below it
abbrev pub EndsByBlocks : Type 0
EndsByBlocks =
    (runs : List Run) (end : ℕ) → Rises runs
    → EndsBy end runs ↔ ((block : ℕ) → has block runs ≡ true → block < end)

-- the block has one of the set at or below it, and one at or above it
pub record IsBetween (runs : List Run) (block : ℕ) : Type 0 where
  pub low : ℕ
  pub high : ℕ
  pub has_low : has low runs ≡ true
  pub has_high : has high runs ≡ true
  pub above : low ≤ block
  pub below : block ≤ high

-- the hull has just these blocks
abbrev pub HullIsBetween : Type 0
HullIsBetween =
    (runs : List Run) (block : ℕ) → Rises runs
    → (has block (hull_of runs) ≡ true) ↔ IsBetween runs block

-- the hull of rising runs rises, and ends no later
abbrev pub HullLiesWithin : Type 0
HullLiesWithin =
    (runs : List Run) (end : ℕ) → Rises runs → EndsBy end runs
    → Rises (hull_of runs) × EndsBy end (hull_of runs)
