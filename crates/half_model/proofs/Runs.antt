-- The filled blocks of a commit lie within their file, are few, and ascend.
use Rattle.std.proofs.Common.{ℕ, zero, suc, ◌+◌, ◌<◌, ◌≤◌, Bool, true, false, cond, eqb, leb, List, [], ◌∷◌, length, filter, arith}
use Rattle.std.proofs.lemmas.Bool.{cond_both, leb-true}
use Rattle.std.specs.List.{AllByRecursion}
use Rattle.block_intervals.specs.declared.run.Run.{Run}
use Rattle.block_intervals.specs.Sets.{RisesFrom, last_end, hull_of, with_before, runs_of}
use Rattle.block_intervals.specs.Statements.{counted}
use Rattle.block_intervals.proofs.LawProofs.{runs_of-rises}
use Rattle.block_intervals.proofs.SetLemmas.{hull-rises}
use Rattle.surface_damage.specs.Filled.{blocks_of, filled, filled_at}
use Rattle.surface_damage.specs.Images.{holds}
use Rattle.surface_damage.specs.DueBytes.{is_due, told_of}
use Rattle.surface_damage.specs.History.{SurfaceState}
use Rattle.surface_damage.specs.declared.standing.Standing.{Standing}

-- each run ends by a block
abbrev pub EndBy : ℕ → List Run → Type 0
EndBy high runs = AllByRecursion (λ run. run.end ≤ high) runs

-- runs that ascend, are at most 1,024 and end by a block
pub record AreFew (runs : List Run) (high : ℕ) : Type 0 where
  pub rise : RisesFrom 0 runs
  pub end : EndBy high runs
  pub few : length runs ≤ 1024

end_before : (block high : ℕ) (runs : List Run) → block < high → EndBy high runs → EndBy high (with_before block runs)
end_before block high [] b h = (omega arith, tt)
end_before block high (run ∷ runs) b h =
    cond_both (eqb (block + 1) run.first) (record { first = block; end = run.end } ∷ runs) (record { first = block; end = block + 1 } ∷ run ∷ runs)
    (EndBy high) (λ e. (h.0, h.1)) (λ e. (omega arith, h))

cond_blocks : (b : Bool) (block high : ℕ) (blocks : List ℕ) → block < high → EndBy high (runs_of blocks) → EndBy high (runs_of (cond b (block ∷ blocks) blocks))
cond_blocks true block high blocks l h = end_before block high (runs_of blocks) l h
cond_blocks false block high blocks l h = h

end_runs_of : (test : ℕ → Bool) (from count high : ℕ) → from + count ≤ high → EndBy high (runs_of (filter test (counted from count)))
end_runs_of test from zero high l = tt
end_runs_of test from (suc count) high l =
    cond_blocks (test from) from high (filter test (counted (from + 1) count)) (omega arith) (end_runs_of test (from + 1) count high (omega arith))

pub last_end_by : (low high : ℕ) (runs : List Run) → low ≤ high → EndBy high runs → last_end low runs ≤ high
last_end_by low high [] l h = l
last_end_by low high (run ∷ runs) l h = last_end_by run.end high runs h.0 h.1

end_hull : (high : ℕ) (runs : List Run) → EndBy high runs → EndBy high (hull_of runs)
end_hull high [] h = tt
end_hull high (run ∷ runs) h = (last_end_by run.end high runs h.0 h.1, tt)

few_hull : (runs : List Run) → length (hull_of runs) ≤ 1024
few_hull [] = omega arith
few_hull (run ∷ runs) = omega arith

pub few-filled : (due : ℕ → Bool) (size : ℕ) → AreFew (filled due size) (blocks_of size)
few-filled due size =
    let runs : List Run = runs_of (filter (holds due) (counted 0 (blocks_of size))) in
    let rises : RisesFrom 0 runs = runs_of-rises (holds due) 0 (blocks_of size) in
    let ends : EndBy (blocks_of size) runs = end_runs_of (holds due) 0 (blocks_of size) (blocks_of size) (omega arith) in
    cond_both (leb (length runs) 1024) runs (hull_of runs) (λ rs. AreFew rs (blocks_of size))
    (λ e. record { rise = rises; end = ends; few = leb-true (length runs) 1024 e })
    (λ e. record { rise = hull-rises runs rises; end = end_hull (blocks_of size) runs ends; few = few_hull runs })

pub few-filled_at : (s : SurfaceState) (standing : Standing) → AreFew (filled_at s standing) (blocks_of (told_of standing))
few-filled_at s standing = few-filled (is_due s standing) (told_of standing)
