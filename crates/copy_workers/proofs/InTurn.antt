-- Copies that are made one after another, in the order of their jobs.
use Rattle.std.proofs.Common.{◌≡◌, suc, List, [], ◌∷◌, ◌++◌, length, All, sym, subst, append_assoc, append-nil, arith}
use Rattle.std.specs.List.{AllZip}
use Rattle.std.proofs.lemmas.List.{nil_from_length}
use Rattle.copy_workers.specs.declared.copies.CopyJob.{CopyJob}
use Rattle.copy_workers.specs.Copies.{DoneState, IsCopyOf}

-- these are the copies of the jobs, once copies of the rest stand behind them
abbrev pub InTurn : List CopyJob → List CopyJob → List DoneState → Type 0
InTurn jobs rest dones = (more : List DoneState) → AllZip IsCopyOf rest more → AllZip IsCopyOf jobs (dones ++ more)

pub goes_on : (jobs rest less : List CopyJob) (dones : List DoneState) (x : CopyJob) (d : DoneState) → rest ≡ x ∷ less → IsCopyOf x d
    → InTurn jobs rest dones → InTurn jobs less (dones ++ d ∷ [])
goes_on jobs rest less dones x d e is so more z =
    subst (AllZip IsCopyOf jobs) (sym (append_assoc dones (d ∷ []) more))
    (so (d ∷ more) (subst (λ (l : List CopyJob). AllZip IsCopyOf l (d ∷ more)) (sym e) (is, z)))

pub ends : (jobs rest : List CopyJob) (dones : List DoneState) → length rest ≡ 0 → InTurn jobs rest dones → AllZip IsCopyOf jobs dones
ends jobs rest dones none so =
    subst (AllZip IsCopyOf jobs) (append-nil dones)
    (so [] (subst (λ (l : List CopyJob). AllZip IsCopyOf l []) (sym (nil_from_length rest none)) tt))

module _ {X : Type 0} (P : X → Type 0) where
  pub head_all : (xs less : List X) (x : X) → xs ≡ x ∷ less → All P xs → P x
  head_all xs less x e all = (subst (All P) e all) 0 x (omega arith)

  pub tail_all : (xs less : List X) (x : X) → xs ≡ x ∷ less → All P xs → All P less
  tail_all xs less x e all i d lt = (subst (All P) e all) (suc i) d (omega (arith, lt))
