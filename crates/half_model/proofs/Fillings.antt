-- The blocks that a message fills lie within the told size of their file.
use Rattle.std.proofs.Common.{◌≡◌, ℕ, ◌+◌, ◌<◌, ◌≤◌, eqb, List, [], ◌∷◌, Option, Some, None, refl, arith}
use Rattle.std.proofs.lemmas.Bool.{cond_both, eqb-false}
use Rattle.block_intervals.specs.declared.run.Run.{Run}
use Rattle.block_intervals.specs.Sets.{RisesFrom, last_end}
use Rattle.surface_damage.specs.declared.standing.Standing.TheVariants.{Nothing, Fits}
use Rattle.surface_damage.specs.Filled.{blocks_of, filled_at}
use Rattle.surface_damage.specs.History.{SurfaceState}
use Rattle.surface_damage.specs.Steps.{find}
use Rattle.wl_objects.specs.Entries.{Tracked}
use Rattle.half_model.specs.declared.deeds.Deed.{Deed}
use Rattle.half_model.specs.declared.deeds.Deed.TheVariants.{Commit, Keymap}
use Rattle.half_model.specs.declared.roles.SentFile.{SentFile}
use Rattle.half_model.specs.Filling.{pieces_of}
use Rattle.shm_pools.specs.Buffers.{fits_in}
use Rattle.half_model.specs.Shm.{ShmState, Passing, Made, file_passed, current, told_at}
use Rattle.half_model.specs.Showing.{Filling, standing, shown_by, filled_by, filled_whole, filling_of, whole}
use Rattle.mirror_pools.specs.Sizes.{ToldSizes}
use Rattle.half_model.proofs.Runs.{EndBy, AreFew, few-filled_at}

end_later : (low high : ℕ) (runs : List Run) → low ≤ high → EndBy low runs → EndBy high runs
end_later low high [] l h = tt
end_later low high (run ∷ runs) l h = (omega (arith, h.0), end_later low high runs l h.1)

few_later : (runs : List Run) (low high : ℕ) → low ≤ high → AreFew runs low → AreFew runs high
few_later runs low high l h = record { rise = h.rise; end = end_later low high runs l h.end; few = h.few }

no_runs : (high : ℕ) → AreFew [] high
no_runs high = record { rise = tt; end = tt; few = omega arith }

-- the runs of a filling end by the told size of its file
abbrev pub IsWithin : ToldSizes → Filling → Type 0
IsWithin told it = AreFew it.runs (blocks_of (told_at it.file.rid told))

within_made : (told : ToldSizes) (made : Option Made) (s : SurfaceState) → AreFew (filled_at s (standing told made)) (blocks_of (told_at (shown_by made).rid told))
within_made told None s = few_later (filled_at s Nothing) 0 _ (omega arith) (few-filled_at s Nothing)
within_made told (Some made) s =
    let size : ℕ = told_at made.file.rid told in
    cond_both (fits_in made.shape size) (Fits made.shape size) Nothing (λ st. AreFew (filled_at s st) (blocks_of size))
    (λ e. few-filled_at s (Fits made.shape size)) (λ e. few_later (filled_at s Nothing) 0 (blocks_of size) (omega arith) (few-filled_at s Nothing))

within_surface : (told : ToldSizes) (made : Option Made) (s : Option SurfaceState) → IsWithin told (filled_by told made s)
within_surface told made None = no_runs _
within_surface told made (Some s) = within_made told made s

few_whole : (size : ℕ) → AreFew (whole size) (blocks_of size)
few_whole size =
    cond_both (eqb (blocks_of size) 0) [] (record { first = 0; end = blocks_of size } ∷ []) (λ runs. AreFew runs (blocks_of size))
    (λ e. no_runs (blocks_of size))
    (λ e. let apart = eqb-false (blocks_of size) 0 e in record { rise = (omega arith, some (blocks_of size) apart, tt); end = (omega arith, tt); few = omega arith })
  where
    some : (n : ℕ) → (n ≡ 0 → ⊥) → 0 < n
    some n apart = grind (arith, apart)

within_whole : (told : ToldSizes) (file : Option SentFile) → IsWithin told (filled_whole told file)
within_whole told None = no_runs _
within_whole told (Some file) = few_whole (told_at file.rid told)

pub within_told : (objects : Tracked) (object : ℕ) (deed : Deed) (passing : Option Passing) (shm : ShmState) → IsWithin shm.told (filling_of objects object deed passing shm)
within_told objects object Commit passing shm = within_surface shm.told (current objects object shm) (find object shm.surfaces)
within_told objects object (Keymap size) passing shm = within_whole shm.told (file_passed passing)
within_told objects object _ passing shm = no_runs _

-- ---- no blocks

pub nothing_filled : (runs : List Run) (high : ℕ) → high ≡ 0 → AreFew runs high → pieces_of runs ≡ []
nothing_filled [] high e h = refl
nothing_filled (run ∷ runs) high e h = absurd (omega (arith, e, h.rise.1, h.end.0))

-- ---- the last block

end_last : (low at : ℕ) (runs : List Run) → low < at → RisesFrom at runs → (low ≤ last_end low runs) × EndBy (last_end low runs) runs
end_last low at [] l r = (omega arith, tt)
end_last low at (run ∷ runs) l r =
    let rest = end_last run.end (run.end + 1) runs (omega arith) r.2 in
    (omega (arith, l, r.0, r.1, rest.0), (rest.0, rest.1))

pub ends_last : (runs : List Run) → RisesFrom 0 runs → EndBy (last_end 0 runs) runs
ends_last [] r = tt
ends_last (run ∷ runs) r =
    let rest = end_last run.end (run.end + 1) runs (omega arith) r.2 in
    (rest.0, rest.1)
