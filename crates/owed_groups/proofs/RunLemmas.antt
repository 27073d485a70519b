-- Runs of blocks: the last one, and runs and pieces that lie within files.
use Rattle.std.proofs.Common.{◌≡◌, ℕ, suc, ◌+◌, ◌-◌, ◌≤◌, List, [], ◌∷◌, length, Some, sym, ap, ◌∙◌, arith}
use Rattle.std.specs.List.{slice_get}
use Rattle.block_intervals.specs.declared.run.Run.{Run}
use Rattle.block_intervals.specs.Sets.{RisesFrom, EndsBy, last_end}
use Rattle.half_model.specs.Filling.{Ascends, pieces_of}
use Rattle.half_model.proofs.Pieces.{ascend_pieces}
use Rattle.message_plans.specs.Blocks.{MOST_BLOCK, AreInFile}

same_run : (a b : Run) → Some a ≡ Some b → a ≡ b
same_run a b e = cc

pub last_of : (end : ℕ) (runs : List Run) (run : Run) → Some run ≡ slice_get runs (length runs - 1) → run.end ≡ last_end end runs
last_of end [] run e = absurd (let never : ⊥ = cc in never)
last_of end (one ∷ []) run e = ap (λ (r : Run). r.end) (same_run run one e)
last_of end (one ∷ next ∷ runs) run e =
    let n : length (one ∷ next ∷ runs) - 1 ≡ suc (length runs) = omega arith in
    let m : length (next ∷ runs) - 1 ≡ length runs = omega arith in
    last_of one.end (next ∷ runs) run
    (e ∙ ap (λ (k : ℕ). slice_get (one ∷ next ∷ runs) k) n ∙ sym (ap (λ (k : ℕ). slice_get (next ∷ runs) k) m))

pub runs_in_file : (low : ℕ) (runs : List Run) → RisesFrom low runs → EndsBy MOST_BLOCK runs → AreInFile runs
runs_in_file low [] r e = tt
runs_in_file low (run ∷ runs) r e = ((r.1, e.0), runs_in_file (run.end + 1) runs r.2 e.1)

low_high : (low : ℕ) (pieces : List Run) (high : ℕ) → Ascends low pieces high → low ≤ high
low_high low [] high h = h
low_high low (piece ∷ pieces) high h = let rest = low_high piece.end pieces high h.2 in omega (arith, h.0, h.1, rest)

in_file : (low : ℕ) (pieces : List Run) (high : ℕ) → Ascends low pieces high → high ≤ MOST_BLOCK → AreInFile pieces
in_file low [] high h l = tt
in_file low (piece ∷ pieces) high h l =
    let rest = low_high piece.end pieces high h.2 in
    ((h.1, omega (arith, rest, l)), in_file piece.end pieces high h.2 l)

pub pieces_in_file : (runs pieces : List Run) → RisesFrom 0 runs → EndsBy MOST_BLOCK runs → pieces ≡ pieces_of runs → AreInFile pieces
pieces_in_file runs pieces r e is = rw is (in_file 0 (pieces_of runs) MOST_BLOCK (ascend_pieces MOST_BLOCK runs r e) (omega arith))
