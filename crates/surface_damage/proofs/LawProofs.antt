-- What the filled blocks hold: every due byte, and unless the runs are too many, in each block one.
--
-- The blocks that hold a due byte are below the end of the file, so they are in the list that the filled blocks are the runs of,
-- and a hull has them too.
use Rattle.std.proofs.Common.{◌≡◌, ℕ, ◌+◌, ◌/◌, ◌<◌, ◌≤◌, Bool, true, List, length, ap, ◌∙◌, sym, arith, ⊎_elim}
use Rattle.std.specs.Prelude.{nat_le}
use Rattle.std.proofs.lemmas.Bool.{cases_Bool, cond-true, cond-false, and_parts, and_from, le-leb}
use Rattle.block_intervals.specs.declared.run.Run.{Run}
use Rattle.block_intervals.specs.Sets.{has, Rises, lies_within, hull_of}
use Rattle.block_intervals.proofs.LawProofs.{runs_of-has, runs_of-rises, has_hull_law}
use Rattle.surface_damage.specs.Images.{holds}
use Rattle.surface_damage.specs.DueBytes.{is_due, told_of}
use Rattle.surface_damage.specs.Filled.{few, runs_due, blocks_of}
use Rattle.surface_damage.specs.Statements.{DueBytesAreFilled, FilledBlocksAreDue}
use Rattle.surface_damage.proofs.AnyLemmas.{holds_byte}
use Rattle.surface_damage.proofs.ImageLemmas.{lies_from}
use Rattle.surface_damage.proofs.FilledLemmas.{due_below}

-- a block of the set is in what is kept of it
few_has : (runs : List Run) (block : ℕ) → Rises runs → has block runs ≡ true → has block (few runs) ≡ true
few_has runs block rises is =
    ⊎_elim
    (λ short. ap (has block) (cond-true (nat_le (length runs) 1024) runs (hull_of runs) short) ∙ is)
    (λ long. ap (has block) (cond-false (nat_le (length runs) 1024) runs (hull_of runs) long)
    ∙ (has_hull_law runs block rises).1 (record { low = block; high = block; has_low = is; has_high = is; above = omega arith; below = omega arith }))
    (cases_Bool (nat_le (length runs) 1024))

pub due_bytes_are_filled_law : DueBytesAreFilled
due_bytes_are_filled_law s standing at stands due =
    let size : ℕ = told_of standing in
    let below : at < size = due_below s standing at stands due in
    let held : holds (is_due s standing) (at / 64) ≡ true = holds_byte (is_due s standing) (at / 64) at (omega arith) (omega arith) due in
    let inside : lies_within 0 (0 + blocks_of size) (at / 64) ≡ true = lies_from 0 (0 + blocks_of size) (at / 64) (omega arith) (omega arith) in
    few_has (runs_due (is_due s standing) size) (at / 64) (runs_of-rises (holds (is_due s standing)) 0 (blocks_of size))
    (runs_of-has (holds (is_due s standing)) 0 (blocks_of size) (at / 64) ∙ and_from (lies_within 0 (0 + blocks_of size) (at / 64)) (holds (is_due s standing) (at / 64)) inside held)

pub filled_blocks_are_due_law : FilledBlocksAreDue
filled_blocks_are_due_law s standing block short is =
    let runs : List Run = runs_due (is_due s standing) (told_of standing) in
    let kept : has block runs ≡ true = sym (ap (has block) (cond-true (nat_le (length runs) 1024) runs (hull_of runs) (le-leb _ _ short))) ∙ is in
    (and_parts (lies_within 0 (0 + blocks_of (told_of standing)) block) (holds (is_due s standing) block) (sym (runs_of-has (holds (is_due s standing)) 0 (blocks_of (told_of standing)) block) ∙ kept)).1
