-- The jobs of a message lie in the file whose eyes they have, so each of them has the eye that stands at its segment.
use Rattle.std.proofs.Common.{◌≡◌, ℕ, ◌+◌, ◌-◌, ◌*◌, ◌<◌, ◌≤◌, zero, suc, min, ℤ, List, [], ◌∷◌, length, map, Some, slice_get, get_or, refl, sym, subst, arith}
use Rattle.std.proofs.Math.Dec.{ltb}
use Rattle.std.proofs.lemmas.Bool.{cond_both}
use Rattle.std.proofs.lemmas.List.{length-map}
use Rattle.std.specs.List.{AllByRecursion}
use Rattle.block_intervals.specs.declared.run.Run.{Run}
use Rattle.pool_words.specs.Views.{EyeState}
use Rattle.half_model.specs.Filling.{Part, part_in, parts_from, parts_of_piece, parts_of}
use Rattle.half_model.specs.Jobs.{no_eye, jobs_of, split}
use Rattle.side_model.proofs.Sounds.{all_append}
use Rattle.receipt_laws.specs.Lending.{JobFits, IsIn}
use Rattle.receipt_laws.specs.Owning.{Ownership, EyeIsOwn, JobIsOwn}

-- ---- where parts lie

-- in this file, and in one of its first segments
abbrev pub LiesIn : ℤ → ℕ → Part → Type 0
LiesIn file count part = (part.file ≡ file) × (part.segment < count)

one_lies : (file : ℤ) (segment words first end count : ℕ) → segment < count → AllByRecursion (LiesIn file count) (part_in file segment words first end)
one_lies file segment words first end count l =
    cond_both (ltb first (min words end)) (record { file = file; segment = segment; first = first; count = min words end - first } ∷ []) []
    (AllByRecursion (LiesIn file count)) (λ e. ((refl, l), tt)) (λ e. tt)

from_lie : (file : ℤ) (segment : ℕ) (segments : List ℕ) (first end count : ℕ) → segment + length segments ≤ count → AllByRecursion (LiesIn file count) (parts_from file segment segments first end)
from_lie file segment [] first end count l = tt
from_lie file segment (words ∷ segments) first end count l =
    all_append (LiesIn file count) (part_in file segment words first end) (parts_from file (segment + 1) segments (first - words) (end - words))
    (one_lies file segment words first end count (omega (arith, l)))
    (from_lie file (segment + 1) segments (first - words) (end - words) count (omega (arith, l)))

parts_lie : (file : ℤ) (segments : List ℕ) (pieces : List Run) → AllByRecursion (LiesIn file (length segments)) (parts_of file segments pieces)
parts_lie file segments [] = tt
parts_lie file segments (piece ∷ pieces) =
    all_append (LiesIn file (length segments)) (parts_of_piece file segments piece) (parts_of file segments pieces)
    (from_lie file 0 segments (8 * piece.first) (8 * piece.end) (length segments) (omega arith))
    (parts_lie file segments pieces)

-- the segments of these eyes
pub parts_in_eyes : (file : ℤ) (eyes : List EyeState) (pieces : List Run) → AllByRecursion (LiesIn file (length eyes)) (parts_of file (map (λ eye. eye.words) eyes) pieces)
parts_in_eyes file eyes pieces =
    let words : List ℕ = map (λ (eye : EyeState). eye.words) eyes in
    subst (λ (count : ℕ). AllByRecursion (LiesIn file count) (parts_of file words pieces)) (length-map eyes (λ (eye : EyeState). eye.words)) (parts_lie file words pieces)

-- ---- their jobs

get_at : (eyes : List EyeState) (segment : ℕ) → segment < length eyes → slice_get eyes segment ≡ Some (get_or eyes segment no_eye)
get_at [] segment l = absurd (omega (arith, l))
get_at (eye ∷ eyes) zero l = refl
get_at (eye ∷ eyes) (suc segment) l = get_at eyes segment (omega (arith, l))

-- the eyes of one file are own
abbrev pub EyesAreOwn : Ownership → ℤ → List EyeState → Type 0
EyesAreOwn Own file eyes = (segment : ℕ) (eye : EyeState) → slice_get eyes segment ≡ Some eye → EyeIsOwn Own file segment eye

eye_at : (Own : Ownership) (file : ℤ) (eyes : List EyeState) (part : Part) → EyesAreOwn Own file eyes → LiesIn file (length eyes) part
    → EyeIsOwn Own part.file part.segment (split (get_or eyes part.segment no_eye))
eye_at Own file eyes part own lies receipt number pool =
    subst (λ (f : ℤ). Own f part.segment receipt) (sym lies.0) (own part.segment (get_or eyes part.segment no_eye) (get_at eyes part.segment lies.1) receipt number pool)

pub jobs_own : (Own : Ownership) (file : ℤ) (next : ℕ) (eyes : List EyeState) (parts : List Part) → EyesAreOwn Own file eyes → AllByRecursion (LiesIn file (length eyes)) parts
    → AllByRecursion (JobIsOwn Own) (jobs_of next eyes parts)
jobs_own Own file next eyes [] own lie = tt
jobs_own Own file next eyes (part ∷ parts) own lie = (eye_at Own file eyes part own lie.0, jobs_own Own file (next + 1) eyes parts own lie.1)

-- all of them wait
pub jobs_fit : (next : ℕ) (eyes : List EyeState) (parts : List Part) → AllByRecursion JobFits (jobs_of next eyes parts)
jobs_fit next eyes [] = tt
jobs_fit next eyes (part ∷ parts) = ((refl, refl), jobs_fit (next + 1) eyes parts)

pub jobs_in : (next : ℕ) (eyes : List EyeState) (parts : List Part) → AllByRecursion IsIn (jobs_of next eyes parts)
jobs_in next eyes [] = tt
jobs_in next eyes (part ∷ parts) = (refl, jobs_in (next + 1) eyes parts)
