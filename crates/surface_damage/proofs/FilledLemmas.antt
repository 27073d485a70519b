-- The runs of the blocks with a due byte are the filled blocks: every due byte lies before the told size, so their list, up to
-- the last block of that size, has them all. And filled blocks ascend within that size, in few runs.
use Rattle.std.proofs.Common.{◌≡◌, ℕ, ◌+◌, ◌*◌, ◌<◌, ◌≤◌, Bool, true, ◌&&◌, List, [], ◌∷◌, length, ltb, leb, ap, ◌∙◌, sym, subst, arith, Option, Some, None, ⊎_elim}
use Rattle.std.specs.Prelude.{MatchBool, unsigned_abs, ℤ, pos, negsuc, ◌+ℤ◌, ◌*ℤ◌, ◌≤ℤ◌, ◌<ℤ◌}
use Rattle.std.proofs.lemmas.Int.{ints}
use Rattle.std.proofs.lemmas.Bool.{false≢true, cases_Bool, cond-true, cond-false, cond_both, leb-true, and_parts, and_from, lt-ltb}
use Rattle.std.proofs.Math.Nat.{mul-le-mul_left}
use Rattle.block_intervals.specs.declared.run.Run.{Run}
use Rattle.block_intervals.specs.Sets.{has, Rises, hull_of}
use Rattle.block_intervals.proofs.LawProofs.{has_runs_of_law}
use Rattle.block_intervals.proofs.EndLemmas.{runs_of_lie_below, hull_lies_within}
use Rattle.shm_pools.specs.declared.buffers.Buffer.{Buffer}
use Rattle.shm_pools.specs.Buffers.{has_pixels, FitsImage, FitsBytes, Fits as FitsIn}
use Rattle.surface_damage.specs.declared.history.BufferKey.{BufferKey}
use Rattle.surface_damage.specs.declared.image.Image.{Image}
use Rattle.surface_damage.specs.declared.standing.Standing.{Standing}
use Rattle.surface_damage.specs.declared.standing.Standing.TheVariants.{Nothing, Fits}
use Rattle.surface_damage.specs.History.{SurfaceState}
use Rattle.surface_damage.specs.Images.{image_of, in_pixels, holds, LiesIn, row_of, place_in_row}
use Rattle.surface_damage.specs.DueBytes.{byte_is_due, due_if_attached, is_due, told_of, Stands, pixel_is_due}
use Rattle.surface_damage.specs.Filled.{blocks_of, few, runs_due, filled_at, IsFilling}
use Rattle.surface_damage.specs.Statements.{FilledBlocksAscend}
use Rattle.surface_damage.proofs.DueLemmas.{fits_words}
use Rattle.surface_damage.proofs.AnyLemmas.{same_test, any_found}
use Rattle.surface_damage.proofs.ImageLemmas.{pixel_parts, byte_is, lies_parts}

-- an image that fits lies in its file
lies_numbers : (offset width height stride : ℤ) (told : ℕ) → pos 0 ≤ℤ offset → pos 0 <ℤ width → pos 0 <ℤ height → (pos 4 *ℤ width) ≤ℤ stride → (offset +ℤ stride *ℤ height) ≤ℤ pos told → LiesIn (record { offset = unsigned_abs offset; width = unsigned_abs width; height = unsigned_abs height; stride = unsigned_abs stride }) told
lies_numbers (negsuc o) width height stride told begins wide high rows ends = absurd (omega (arith, ints))
lies_numbers (pos o) (negsuc w) height stride told begins wide high rows ends = absurd (omega (arith, ints))
lies_numbers (pos o) (pos w) (negsuc h) stride told begins wide high rows ends = absurd (omega (arith, ints))
lies_numbers (pos o) (pos w) (pos h) (negsuc s) told begins wide high rows ends = absurd (omega (arith, ints))
lies_numbers (pos o) (pos w) (pos h) (pos s) told begins wide high rows ends = record { wide = omega (arith, ints); high = omega (arith, ints); rows = omega (arith, ints); ends = omega (arith, ints) }

lies_image : (b : Buffer) (told : ℕ) → has_pixels b.format ≡ true → FitsIn b told → LiesIn (image_of b) told
lies_image b told four fits =
    let rows : FitsImage b told = subst (λ (t : Bool). MatchBool t (FitsImage b told) (FitsBytes b told)) four fits in
    lies_numbers b.offset b.width b.height b.stride told rows.begins rows.wide rows.high rows.rows rows.ends

-- a byte of a pixel lies in the file
pixel_below : (image : Image) (told at : ℕ) (test : ℕ → ℕ → Bool) → LiesIn image told → in_pixels image test at ≡ true → at < told
pixel_below image told at test lies e =
    let p = pixel_parts image test at e in
    let is : image.offset + image.stride * row_of image at + place_in_row image at ≡ at = byte_is image at p.from in
    let row : row_of image at + 1 ≤ image.height = let r : row_of image at < image.height = p.row_in in omega arith in
    let place : place_in_row image at < 4 * image.width = p.place_in in
    let wide : 4 * image.width ≤ image.stride = lies.rows in
    let ends : image.offset + image.stride * image.height ≤ told = lies.ends in
    let rows : image.stride * (row_of image at + 1) ≤ image.stride * image.height = mul-le-mul_left image.stride row in
    omega arith

byte_below : (s : SurfaceState) (key : BufferKey) (b : Buffer) (told at : ℕ) → FitsIn b told → byte_is_due s key b told at ≡ true → at < told
byte_below s key b told at fits e =
    ⊎_elim
    (λ four. pixel_below (image_of b) told at (pixel_is_due s key b) (lies_image b told four fits) (sym (cond-true (has_pixels b.format) _ _ four) ∙ e))
    (λ other. (lies_parts (unsigned_abs b.offset) told at (sym (cond-false (has_pixels b.format) _ _ other) ∙ e)).1)
    (cases_Bool (has_pixels b.format))

attached_below : (s : SurfaceState) (attached : Option BufferKey) (b : Buffer) (told at : ℕ) → FitsIn b told → due_if_attached s attached b told at ≡ true → at < told
attached_below s None b told at fits e = absurd (false≢true e)
attached_below s (Some key) b told at fits e = byte_below s key b told at fits e

pub due_below : (s : SurfaceState) (standing : Standing) (at : ℕ) → Stands standing → is_due s standing at ≡ true → at < told_of standing
due_below s Nothing at stands e = absurd (false≢true e)
due_below s (Fits b told) at stands e = attached_below s s.attached b told at (fits_words b told stands) e

-- a block with a due byte is one of the told size
block_below : (due : ℕ → Bool) (size block : ℕ) → ((at : ℕ) → due at ≡ true → at < size) → holds due block ≡ true → block < blocks_of size
block_below due size block below e =
    let f = any_found (λ k. due (64 * block + k)) 64 e in
    let l : 64 * block + f.at < size = below (64 * block + f.at) f.passes in
    omega arith

pub filled_is : (s : SurfaceState) (standing : Standing) (blocks : List Run) → Stands standing → Rises blocks → ((block : ℕ) → has block blocks ≡ holds (is_due s standing) block) → few blocks ≡ filled_at s standing
filled_is s standing blocks stands rises same =
    ap few (has_runs_of_law blocks (holds (is_due s standing)) (blocks_of (told_of standing)) rises
    (λ block. same block ∙ same_test (holds (is_due s standing) block) (ltb block (blocks_of (told_of standing)) && holds (is_due s standing) block)
    (λ e. and_from _ _ (lt-ltb block (blocks_of (told_of standing)) (block_below (is_due s standing) (told_of standing) block (λ at t. due_below s standing at stands t) e)) e)
    (λ e. (and_parts (ltb block (blocks_of (told_of standing))) (holds (is_due s standing) block) e).1)))

-- ---- all filled blocks

few_hull : (runs : List Run) → length (hull_of runs) ≤ 1024
few_hull [] = omega arith
few_hull (run ∷ runs) = omega arith

pub filled_blocks_ascend_law : FilledBlocksAscend
filled_blocks_ascend_law s standing =
    let size : ℕ = told_of standing in
    let due : ℕ → Bool = λ at. is_due s standing at in
    let runs : List Run = runs_due due size in
    let below = runs_of_lie_below (holds due) (blocks_of size) in
    let whole = hull_lies_within runs (blocks_of size) below.0 below.1 in
    cond_both (leb (length runs) 1024) runs (hull_of runs) (λ kept. IsFilling kept size)
    (λ short. record { rises = below.0; ends = below.1; few = leb-true (length runs) 1024 short })
    (λ long. record { rises = whole.0; ends = whole.1; few = few_hull runs })

pub nothing_filled : (told : ℕ) → IsFilling [] told
nothing_filled told = record { rises = tt; ends = tt; few = omega arith }
