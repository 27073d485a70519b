-- A write to a file leaves its segments as long as they were.
use Rattle.std.proofs.Common.{◌≡◌, ℕ, zero, suc, List, [], ◌∷◌, sum, set, refl, ap, ◌∙◌}
use Rattle.std.specs.Prelude.{Result, Ok, Err, OnOk, OnErr}
use Rattle.pool_words.specs.Views.{PenState, wrote}
use Rattle.shm_pools.specs.Files.{FileState, pen_sizes, pen_at, segment_of, offset_of, after_write}

sizes_set : (ps : List PenState) (k : ℕ) (p : PenState) → p.words ≡ (pen_at ps k).words
    → pen_sizes (set ps k p) ≡ pen_sizes ps
sizes_set [] k p same = refl
sizes_set (x ∷ ps) zero p same = ap (λ (n : ℕ). n ∷ pen_sizes ps) same
sizes_set (x ∷ ps) (suc k) p same = ap (λ (ns : List ℕ). x.words ∷ ns) (sizes_set ps k p same)

sizes_after_write : (f : FileState) (word v : ℕ)
    → pen_sizes (after_write f word v).segments ≡ pen_sizes f.segments
sizes_after_write f word v =
    let segment = segment_of (pen_sizes f.segments) word in
    sizes_set f.segments segment
    (wrote (pen_at f.segments segment) (offset_of (pen_sizes f.segments) word) v) refl

-- whether it is written or refused
pub kept_sizes : {E : Type 0} (r : Result (Unit {0}) E) (f g : FileState) (word v : ℕ)
    → OnOk r (g ≡ after_write f word v) → OnErr r (g ≡ f)
    → sum (pen_sizes f.segments) ≡ 16 → sum (pen_sizes g.segments) ≡ 16
kept_sizes (Ok _) f g word v ok err sized =
    ap (λ (s : FileState). sum (pen_sizes s.segments)) ok
    ∙ ap (λ (sizes : List ℕ). sum sizes) (sizes_after_write f word v) ∙ sized
kept_sizes (Err _) f g word v ok err sized =
    ap (λ (s : FileState). sum (pen_sizes s.segments)) err ∙ sized
