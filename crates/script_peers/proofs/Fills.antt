-- The writes of a line that fills words of a file, segment by segment.
use Rattle.std.proofs.Common.{◌≡◌, ℕ, zero, suc, ◌+◌, ◌<◌, Bool, cond, List, [], ◌∷◌, ◌++◌, length, set, refl, sym, ap, ◌∙◌, arith, eq-eqb, ne_eqb, append_assoc, eqb}
use Rattle.std.proofs.lemmas.List.{append-nil, get_or-set_same, get_or-set_other, length-map}
use native.Mathlib.Decide.{ℕ_discrete}
use Rattle.pool_words.specs.declared.views.Write.{Write}
use Rattle.pool_words.specs.Views.{PenState, wrote, write}
use Rattle.shm_pools.specs.Files.{FileState, pen_sizes, pen_at, no_pen, segment_of, offset_of}
use Rattle.script_peers.specs.Laws.{writes_in, FillsWrite}
use Rattle.script_peers.specs.Owning.{written_from}
use Rattle.script_peers.proofs.OwnLemmas.{sizes_after_write}

sizes_written : (first count value : ℕ) (f : FileState) → pen_sizes (written_from first count value f).segments ≡ pen_sizes f.segments
sizes_written first zero value f = refl
sizes_written first (suc count) value f =
    sizes_after_write (written_from first count value f) (first + count) value ∙ sizes_written first count value f

length_written : (first count value : ℕ) (f : FileState) → length (written_from first count value f).segments ≡ length f.segments
length_written first count value f =
    sym (length-map (written_from first count value f).segments (λ (p : PenState). p.words))
    ∙ ap (λ (sizes : List ℕ). length sizes) (sizes_written first count value f)
    ∙ length-map f.segments (λ (p : PenState). p.words)

-- one write, of a word of this segment or of another one
one_write : (pens : List PenState) (segment offset value k : ℕ) → k < length pens
    → (pen_at (set pens segment (wrote (pen_at pens segment) offset value)) k).history
    ≡ (pen_at pens k).history ++ cond (eqb segment k) (write offset value ∷ []) []
one_write pens segment offset value k below = by (ℕ_discrete k segment)
  where
    p : PenState
    p = wrote (pen_at pens segment) offset value

    by : Dec (k ≡ segment) → (pen_at (set pens segment p) k).history ≡ (pen_at pens k).history ++ cond (eqb segment k) (write offset value ∷ []) []
    by (yes same) =
        ap (λ (n : ℕ). (pen_at (set pens segment p) n).history) same
        ∙ ap (λ (q : PenState). q.history) (get_or-set_same pens segment p no_pen (omega (arith, below, same)))
        ∙ ap (λ (n : ℕ). (pen_at pens n).history ++ write offset value ∷ []) (sym same)
        ∙ sym (ap (λ (b : Bool). (pen_at pens k).history ++ cond b (write offset value ∷ []) []) (eq-eqb segment k (sym same)))
    by (no other) =
        ap (λ (q : PenState). q.history) (get_or-set_other pens segment k p no_pen other)
        ∙ sym (append-nil (pen_at pens k).history)
        ∙ sym (ap (λ (b : Bool). (pen_at pens k).history ++ cond b (write offset value ∷ []) []) (ne_eqb segment k (λ e. other (sym e))))

pub fills_write : FillsWrite
fills_write f first zero value k below = sym (append-nil (pen_at f.segments k).history)
fills_write f first (suc count) value k below =
    let g = written_from first count value f in
    let word = first + count in
    let sizes = pen_sizes f.segments in
    one_write g.segments (segment_of (pen_sizes g.segments) word) (offset_of (pen_sizes g.segments) word) value k
    (omega (arith, below, length_written first count value f))
    ∙ ap (λ (ns : List ℕ). (pen_at g.segments k).history ++ cond (eqb (segment_of ns word) k) (write (offset_of ns word) value ∷ []) []) (sizes_written first count value f)
    ∙ ap (λ (h : List Write). h ++ cond (eqb (segment_of sizes word) k) (write (offset_of sizes word) value ∷ []) []) (fills_write f first count value k below)
    ∙ append_assoc (pen_at f.segments k).history (writes_in sizes k first count value)
    (cond (eqb (segment_of sizes word) k) (write (offset_of sizes word) value ∷ []) [])
