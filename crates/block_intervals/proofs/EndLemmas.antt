-- Where the runs of a set end, those of a list of blocks, and its hull.
use Rattle.std.proofs.Common.{◌≡◌, ℕ, zero, suc, ◌+◌, ◌-◌, ◌<◌, ◌≤◌, Bool, true, eqb, List, [], ◌∷◌, filter, arith, ⊎_elim}
use Rattle.std.proofs.lemmas.Bool.{false≢true, cond_both, or_cases, or_right}
use Rattle.block_intervals.specs.declared.run.Run.{Run}
use Rattle.block_intervals.specs.Sets.{has, lies_within, RisesFrom, EndsBy, last_end, hull_of, with_before, runs_of}
use Rattle.block_intervals.specs.Statements.{counted, RunsOfLieBelow, EndsByBlocks, HullLiesWithin}
use Rattle.block_intervals.proofs.SetLemmas.{hull-rises}
use Rattle.block_intervals.proofs.LawProofs.{runs_of-rises, in_first, lies_is}

-- the last block of a run is one of the set
ends_below : (low end : ℕ) (runs : List Run) → RisesFrom low runs → ((block : ℕ) → has block runs ≡ true → block < end) → EndsBy end runs
ends_below low end [] rises below = tt
ends_below low end (run ∷ runs) rises below =
    let some : run.first < run.end = rises.1 in
    let last : run.end - 1 < end = below (run.end - 1) (in_first run runs (run.end - 1) (omega arith) (omega arith)) in
    (omega arith, ends_below (run.end + 1) end runs rises.2 (λ block is. below block (or_right (lies_within run.first run.end block) (has block runs) is)))

below_end : (end : ℕ) (runs : List Run) → EndsBy end runs → (block : ℕ) → has block runs ≡ true → block < end
below_end end [] ends block is = absurd (false≢true is)
below_end end (run ∷ runs) ends block is =
    ⊎_elim (λ here. let till : block < run.end = (lies_is run.first run.end block here).1 in let ended : run.end ≤ end = ends.0 in omega arith)
    (λ later. below_end end runs ends.1 block later)
    (or_cases (lies_within run.first run.end block) (has block runs) is)

pub ends_by_blocks_law : EndsByBlocks
ends_by_blocks_law runs end rises = (below_end end runs, ends_below 0 end runs rises)

-- a block put before runs that end by a number above it
EndsBy-with_before : (block end : ℕ) (runs : List Run) → block < end → EndsBy end runs → EndsBy end (with_before block runs)
EndsBy-with_before block end [] below ends = (omega arith, tt)
EndsBy-with_before block end (run ∷ runs) below ends =
    cond_both (eqb (block + 1) run.first) (record { first = block; end = run.end } ∷ runs) (record { first = block; end = block + 1 } ∷ run ∷ runs)
    (EndsBy end) (λ joined. (ends.0, ends.1)) (λ apart. (omega arith, ends))

EndsBy-runs_of : (test : ℕ → Bool) (from count end : ℕ) → from + count ≤ end → EndsBy end (runs_of (filter test (counted from count)))
EndsBy-runs_of test from zero end within = tt
EndsBy-runs_of test from (suc count) end within =
    let later : EndsBy end (runs_of (filter test (counted (from + 1) count))) = EndsBy-runs_of test (from + 1) count end (omega arith) in
    cond_both (test from) _ _ (λ blocks. EndsBy end (runs_of blocks)) (λ taken. EndsBy-with_before from end (runs_of (filter test (counted (from + 1) count))) (omega arith) later) (λ left. later)

pub runs_of_lie_below : RunsOfLieBelow
runs_of_lie_below test count = (runs_of-rises test 0 count, EndsBy-runs_of test 0 count count (omega arith))

pub last_end_within : (low end : ℕ) (runs : List Run) → low ≤ end → EndsBy end runs → last_end low runs ≤ end
last_end_within low end [] below ends = below
last_end_within low end (run ∷ runs) below ends = last_end_within run.end end runs ends.0 ends.1

EndsBy-hull_of : (end : ℕ) (runs : List Run) → EndsBy end runs → EndsBy end (hull_of runs)
EndsBy-hull_of end [] ends = tt
EndsBy-hull_of end (run ∷ runs) ends = (last_end_within run.end end runs ends.0 ends.1, tt)

pub hull_lies_within : HullLiesWithin
hull_lies_within runs end rises ends = (hull-rises runs rises, EndsBy-hull_of end runs ends)
