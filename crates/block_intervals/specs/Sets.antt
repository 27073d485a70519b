-- Which set of blocks a list of runs stands for, and when such a list is the one of its set. Blocks
-- are this project's own, stretches of the memory that Wayland's wl_shm shares: a block is a whole
-- number, and a run has the blocks from `first` up to, but not with, `end`.
use Rattle.std.specs.Prelude.{ℕ, ◌+◌, ◌<◌, ◌≤◌, Bool, false, ◌&&◌, ◌||◌, ◌==◌, nat_lt, nat_le}
use Rattle.std.specs.Prelude.{List, [], ◌∷◌, if◌then◌else◌}
use Rattle.std.specs.List.{AllByRecursion}
use Rattle.block_intervals.specs.declared.run.Run.{Run}

-- the block lies from `first` on and before `end`
abbrev pub lies_within : ℕ → ℕ → ℕ → Bool
lies_within first end block = nat_le first block && nat_lt block end

-- the block is one of the set
abbrev pub has : ℕ → List Run → Bool
has block [] = false
has block (run ∷ runs) = lies_within run.first run.end block || has block runs

-- no run is empty, the first begins at `low` or later, and between two runs at least one block is
-- left out
abbrev pub RisesFrom : ℕ → List Run → Type 0
RisesFrom low [] = Unit {0}
RisesFrom low (run ∷ runs) =
    (low ≤ run.first) × (run.first < run.end) × RisesFrom (run.end + 1) runs

-- the runs ascend, are disjoint and do not adjoin
abbrev pub Rises : List Run → Type 0
Rises runs = RisesFrom 0 runs

-- no run has a block from `end` on
abbrev pub EndsBy : ℕ → List Run → Type 0
EndsBy end runs = AllByRecursion (λ run. run.end ≤ end) runs

-- the end of the last run, or `end` where there is none
abbrev pub last_end : ℕ → List Run → ℕ
last_end end [] = end
last_end end (run ∷ runs) = last_end run.end runs

-- one run from the first block of the set to its last
abbrev pub hull_of : List Run → List Run
hull_of [] = []
hull_of (run ∷ runs) = record { first = run.first; end = last_end run.end runs } ∷ []

-- the runs with a block put before them, which is below all of theirs
abbrev pub with_before : ℕ → List Run → List Run
with_before block [] = record { first = block; end = block + 1 } ∷ []
with_before block (run ∷ runs) =
    if block + 1 == run.first
    then record { first = block; end = run.end } ∷ runs
    else record { first = block; end = block + 1 } ∷ run ∷ runs

-- the runs of the blocks of an ascending list
abbrev pub runs_of : List ℕ → List Run
runs_of [] = []
runs_of (block ∷ blocks) = with_before block (runs_of blocks)
