-- The jobs of parts, one part after another.
use Rattle.std.proofs.Common.{◌≡◌, ℕ, suc, ◌+◌, List, [], ◌∷◌, ◌++◌, ◌<◌, length, drop, get_or, ℤ, subst, slice_index_or, length-append, append_assoc, drop-cons, sym, ap, ◌∙◌, arith}
use Rattle.pool_words.specs.Views.{EyeState}
use Rattle.block_intervals.specs.declared.run.Run.{Run}
use Rattle.half_model.specs.Filling.{Part, parts_of_piece, parts_of}
use Rattle.half_model.specs.Jobs.{Job, job_of, jobs_of, no_eye}
use Rattle.message_plans.specs.Blocks.{AreInFile}
use Rattle.owed_groups.specs.JobSteps.{eyes_words}
use Rattle.owed_groups.specs.Slots.{AreKept}
use Rattle.owed_groups.proofs.SlotLemmas.{jobs_kept}

pub jobs_step : (next : ℕ) (eyes : List EyeState) (xs ys : List Part)
    → jobs_of next eyes xs ++ jobs_of (next + length (jobs_of next eyes xs)) eyes ys ≡ jobs_of next eyes (xs ++ ys)
jobs_step next eyes [] ys = let e : next + 0 ≡ next = omega arith in ap (λ (n : ℕ). jobs_of n eyes ys) e
jobs_step next eyes (x ∷ xs) ys =
    let rest = jobs_of (next + 1) eyes xs in
    let e : next + length (jobs_of next eyes (x ∷ xs)) ≡ next + 1 + length rest = omega arith in
    let head = jobs_of next eyes (x ∷ xs) in
    ap (λ (n : ℕ). head ++ jobs_of n eyes ys) e
    ∙ ap (λ (all : List Job). job_of next x (slice_index_or eyes x.segment no_eye) ∷ all) (jobs_step (next + 1) eyes xs ys)

pub kept_of : (next : ℕ) (eyes : List EyeState) (parts : List Part) (jobs : List Job) → jobs ≡ jobs_of next eyes parts → AreKept next 0 (length jobs) jobs
kept_of next eyes parts jobs is = rw is (jobs_kept next eyes parts)

-- the jobs of one more list of parts behind others
pub jobs_put : (next : ℕ) (eyes : List EyeState) (old new : List Job) (xs ys : List Part) → new ≡ old ++ jobs_of (next + length old) eyes xs
    → new ++ jobs_of (next + length new) eyes ys ≡ old ++ jobs_of (next + length old) eyes (xs ++ ys)
jobs_put next eyes old new xs ys is =
    let more = jobs_of (next + length old) eyes xs in
    let count : length new ≡ length old + length more = ap (λ (l : List Job). length l) is ∙ length-append old more in
    let e : next + length new ≡ next + length old + length more = omega (arith, count) in
    ap (λ (l : List Job). l ++ jobs_of (next + length new) eyes ys) is
    ∙ append_assoc old more (jobs_of (next + length new) eyes ys)
    ∙ ap (λ (n : ℕ). old ++ (more ++ jobs_of n eyes ys)) e
    ∙ ap (λ (l : List Job). old ++ l) (jobs_step (next + length old) eyes xs ys)

-- ---- one piece more

next_piece : (pieces : List Run) (k : ℕ) (d : Run) → k < length pieces → drop k pieces ≡ get_or pieces k d ∷ drop (k + 1) pieces
next_piece pieces k d l = let e : suc k ≡ k + 1 = omega arith in
    drop-cons pieces k d l ∙ ap (λ (n : ℕ). get_or pieces k d ∷ drop n pieces) e

pub piece_put : (next : ℕ) (file : ℤ) (eyes now : List EyeState) (old new : List Job) (pieces : List Run) (k : ℕ) (d : Run) → now ≡ eyes → k < length pieces
    → new ≡ old ++ jobs_of (next + length old) now (parts_of_piece file (eyes_words now) (get_or pieces k d))
    → new ++ jobs_of (next + length new) eyes (parts_of file (eyes_words eyes) (drop (k + 1) pieces))
    ≡ old ++ jobs_of (next + length old) eyes (parts_of file (eyes_words eyes) (drop k pieces))
piece_put next file eyes now old new pieces k d same l is =
    let piece : Run = get_or pieces k d in
    let words : List ℕ = eyes_words eyes in
    let put : new ≡ old ++ jobs_of (next + length old) eyes (parts_of_piece file words piece) =
    is ∙ ap (λ (e : List EyeState). old ++ jobs_of (next + length old) e (parts_of_piece file (eyes_words e) piece)) same
    in
    jobs_put next eyes old new (parts_of_piece file words piece) (parts_of file words (drop (k + 1) pieces)) put
    ∙ ap (λ (rest : List Run). old ++ jobs_of (next + length old) eyes (parts_of file words rest)) (sym (next_piece pieces k d l))

pub rest_in_file : (pieces : List Run) (k : ℕ) → k < length pieces → AreInFile (drop k pieces) → AreInFile (drop (k + 1) pieces)
rest_in_file pieces k l h =
    let d : Run = record { first = 0; end = 0 } in
    let P : List Run → Type 0 = λ rest. AreInFile rest in
    let all : AreInFile (get_or pieces k d ∷ drop (k + 1) pieces) = subst P (next_piece pieces k d l) h in
    all.1
