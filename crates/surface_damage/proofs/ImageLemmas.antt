-- The blocks of a row's pixels, and tests of pixels that are joined.
--
-- A byte of a pixel is `offset + stride * row + place`, with a place before the end of the row's pixels, so its row and its
-- place are quotient and remainder by the stride, and its column is its place by four. So a stretch of columns in one row is
-- a stretch of bytes. Rows, bands and whole images are joined from such stretches.
use Rattle.std.proofs.Common.{◌≡◌, ℕ, ◌+◌, ◌-◌, ◌*◌, ◌/◌, ◌%◌, ◌<◌, ◌≤◌, Bool, true, false, ◌&&◌, ◌||◌, eqb, List, [], ◌∷◌, length, get_or, take, max, refl, ap, ◌∙◌, sym, arith}
use Rattle.std.specs.Prelude.{nat_le, nat_lt}
use Rattle.std.proofs.lemmas.Bool.{false≢true, and_parts, and_from, leb-true, ltb-true, le-leb, lt-ltb, eqb-true, eq-eqb}
use Rattle.std.proofs.lemmas.Bool.Decides.{nat_tests}
use Rattle.std.proofs.lemmas.List.{take_more}
use Rattle.std.proofs.lemmas.List.Elements.{All-from_recursion}
use Rattle.std.proofs.lemmas.Nat.{div-mul-add, mod-mul-add, div-add-mod'}
use Rattle.block_intervals.specs.declared.run.Run.{Run}
use Rattle.block_intervals.specs.Sets.{has, lies_within, Rises, EndsBy}
use Rattle.block_intervals.proofs.RunLemmas.{has-append, rises_each}
use Rattle.surface_damage.specs.declared.image.Image.{Image}
use Rattle.surface_damage.specs.Images.{LiesIn, row_of, place_in_row, in_pixels, holds, meets}
use Rattle.surface_damage.proofs.AnyLemmas.{same_test, any_found, any_none, holds_byte, holds_same, holds_either}

-- what the test of a byte says
pub record IsPixelByte (image : Image) (test : ℕ → ℕ → Bool) (at : ℕ) : Type 0 where
  pub from : image.offset ≤ at
  pub row_in : row_of image at < image.height
  pub place_in : place_in_row image at < 4 * image.width
  pub passes : test (place_in_row image at / 4) (row_of image at) ≡ true

pub pixel_parts : (image : Image) (test : ℕ → ℕ → Bool) (at : ℕ) → in_pixels image test at ≡ true → IsPixelByte image test at
pixel_parts image test at h =
    let p = and_parts _ _ h in
    let q = and_parts _ _ p.1 in
    let r = and_parts _ _ q.1 in
    record { from = leb-true _ _ p.0; row_in = ltb-true _ _ q.0; place_in = ltb-true _ _ r.0; passes = r.1 }

pub pixel_from : (image : Image) (test : ℕ → ℕ → Bool) (at : ℕ) → IsPixelByte image test at → in_pixels image test at ≡ true
pixel_from image test at b =
    and_from _ _ (le-leb _ _ b.from) (and_from _ _ (lt-ltb _ _ b.row_in) (and_from _ _ (lt-ltb _ _ b.place_in) b.passes))

-- a byte by its row and its place
at_place : (image : Image) (row place at : ℕ) → place < image.stride → image.offset + image.stride * row + place ≡ at → at - image.offset ≡ row * image.stride + place
at_place image row place at l e = grind arith

row_at : (image : Image) (row place at : ℕ) → place < image.stride → image.offset + image.stride * row + place ≡ at → row_of image at ≡ row
row_at image row place at l e = ap (λ n. n / image.stride) (at_place image row place at l e) ∙ div-mul-add row image.stride place l

place_at : (image : Image) (row place at : ℕ) → place < image.stride → image.offset + image.stride * row + place ≡ at → place_in_row image at ≡ place
place_at image row place at l e = ap (λ n. n % image.stride) (at_place image row place at l e) ∙ mod-mul-add row image.stride place l

pub byte_is : (image : Image) (at : ℕ) → image.offset ≤ at → image.offset + image.stride * row_of image at + place_in_row image at ≡ at
byte_is image at from = let e = div-add-mod' (at - image.offset) image.stride in grind arith

pub lies_parts : (first end n : ℕ) → lies_within first end n ≡ true → (first ≤ n) × (n < end)
lies_parts first end n h = let p = and_parts _ _ h in (leb-true _ _ p.0, ltb-true _ _ p.1)

pub lies_from : (first end n : ℕ) → first ≤ n → n < end → lies_within first end n ≡ true
lies_from first end n l h = and_from _ _ (le-leb _ _ l) (lt-ltb _ _ h)

meets_parts : (first end block : ℕ) → meets first end block ≡ true → (first < 64 * block + 64) × (64 * block < end)
meets_parts first end block h = let p = and_parts _ _ h in (ltb-true _ _ p.0, ltb-true _ _ p.1)

-- the pixel is one of a row's, in a stretch of columns
abbrev pub in_stretch : ℕ → ℕ → ℕ → ℕ → ℕ → Bool
in_stretch row first end bx by = eqb by row && lies_within first end bx

stretch_gives : (image : Image) (row first end block start : ℕ) → start ≡ image.offset + image.stride * row → 4 * image.width ≤ image.stride → end ≤ image.width → row < image.height → first < end → start + 4 * first < 64 * block + 64 → 64 * block < start + 4 * end → holds (in_pixels image (in_stretch row first end)) block ≡ true
stretch_gives image row first end block start is stride wide row_in some ends begins =
    let at : ℕ = max (64 * block) (start + 4 * first) in
    let place : ℕ = at - start in
    let low : 4 * first ≤ place = omega arith in
    let up : place < 4 * end = omega arith in
    let short : place < image.stride = omega arith in
    let whole : image.offset + image.stride * row + place ≡ at = omega arith in
    let r : row_of image at ≡ row = row_at image row place at short whole in
    let p : place_in_row image at ≡ place = place_at image row place at short whole in
    holds_byte (in_pixels image (in_stretch row first end)) block at (omega arith) (omega arith)
    (pixel_from image (in_stretch row first end) at (record {
      from = omega arith;
      row_in = omega arith;
      place_in = omega arith;
      passes = ap (λ n. in_stretch row first end (n / 4) (row_of image at)) p
          ∙ and_from _ _ (eq-eqb (row_of image at) row r) (lies_from first end (place / 4) (omega arith) (omega arith));
    }))

stretch_met : (start place first end block at : ℕ) → start + place ≡ at → first ≤ place / 4 → place / 4 < end → 64 * block ≤ at → at < 64 * block + 64 → meets (start + 4 * first) (start + 4 * end) block ≡ true
stretch_met start place first end block at is low up from till =
    let ends : start + 4 * first < 64 * block + 64 = omega arith in
    let begins : 64 * block < start + 4 * end = omega arith in
    and_from _ _ (lt-ltb _ _ ends) (lt-ltb _ _ begins)

byte_met : (image : Image) (row first end block start at : ℕ) → start ≡ image.offset + image.stride * row → 64 * block ≤ at → at < 64 * block + 64 → IsPixelByte image (in_stretch row first end) at → meets (start + 4 * first) (start + 4 * end) block ≡ true
byte_met image row first end block start at is from till b =
    let parts = and_parts (eqb (row_of image at) row) (lies_within first end (place_in_row image at / 4)) b.passes in
    let same : row_of image at ≡ row = eqb-true (row_of image at) row parts.0 in
    let column = lies_parts first end (place_in_row image at / 4) parts.1 in
    let whole : image.offset + image.stride * row_of image at + place_in_row image at ≡ at = byte_is image at b.from in
    stretch_met start (place_in_row image at) first end block at (ap (λ n. n + place_in_row image at) (is ∙ ap (λ n. image.offset + image.stride * n) (sym same)) ∙ whole) column.0 column.1 from till

-- the blocks of a stretch of columns of a row
pub stretch_holds : (image : Image) (told row first end block start : ℕ) → LiesIn image told → start ≡ image.offset + image.stride * row → row < image.height → end ≤ image.width → first < end → meets (start + 4 * first) (start + 4 * end) block ≡ holds (in_pixels image (in_stretch row first end)) block
stretch_holds image told row first end block start lies is row_in wide some =
    same_test (meets (start + 4 * first) (start + 4 * end) block) (holds (in_pixels image (in_stretch row first end)) block)
    (λ e. let met = meets_parts (start + 4 * first) (start + 4 * end) block e in
    stretch_gives image row first end block start is lies.rows wide row_in some met.0 met.1)
    (λ e. let f = any_found (λ k. in_pixels image (in_stretch row first end) (64 * block + k)) 64 e in
    let k_in : f.at < 64 = f.below in
    byte_met image row first end block start (64 * block + f.at) is (omega arith) (omega arith) (pixel_parts image (in_stretch row first end) (64 * block + f.at) f.passes))

-- ---- tests of pixels

pixels_over : (image : Image) (test other : ℕ → ℕ → Bool) (at : ℕ) → ((bx by : ℕ) → bx < image.width → by < image.height → test bx by ≡ other bx by) → in_pixels image test at ≡ true → in_pixels image other at ≡ true
pixels_over image test other at same e =
    let b = pixel_parts image test at e in
    let p : place_in_row image at < 4 * image.width = b.place_in in
    pixel_from image other at (record { from = b.from; row_in = b.row_in; place_in = b.place_in; passes = sym (same (place_in_row image at / 4) (row_of image at) (omega arith) b.row_in) ∙ b.passes })

-- tests of pixels that agree in the image hold the same bytes
pub pixels_same : (image : Image) (test other : ℕ → ℕ → Bool) (block : ℕ) → ((bx by : ℕ) → bx < image.width → by < image.height → test bx by ≡ other bx by) → holds (in_pixels image test) block ≡ holds (in_pixels image other) block
pixels_same image test other block same =
    holds_same (in_pixels image test) (in_pixels image other) block
    (λ at. same_test (in_pixels image test at) (in_pixels image other at) (pixels_over image test other at same) (pixels_over image other test at (λ bx by w h. sym (same bx by w h))))

-- no pixel, no block
pub pixels_none : (image : Image) (test : ℕ → ℕ → Bool) (block : ℕ) → ((bx by : ℕ) → bx < image.width → by < image.height → test bx by ≡ false) → holds (in_pixels image test) block ≡ false
pixels_none image test block none =
    any_none (λ k. in_pixels image test (64 * block + k)) 64
    (λ k l e. let b = pixel_parts image test (64 * block + k) e in
    let p : place_in_row image (64 * block + k) < 4 * image.width = b.place_in in
    false≢true (sym (none (place_in_row image (64 * block + k) / 4) (row_of image (64 * block + k)) (omega arith) b.row_in) ∙ b.passes))

-- either of two tests of pixels
spread : (x y z p q : Bool) → (x && (y && (z && (p || q)))) ≡ ((x && (y && (z && p))) || (x && (y && (z && q))))
spread false y z p q = refl
spread true false z p q = refl
spread true true false p q = refl
spread true true true p q = refl

pixels_either : (image : Image) (test other : ℕ → ℕ → Bool) (block : ℕ) → holds (in_pixels image (λ bx by. test bx by || other bx by)) block ≡ (holds (in_pixels image test) block || holds (in_pixels image other) block)
pixels_either image test other block =
    holds_same (in_pixels image (λ bx by. test bx by || other bx by)) (λ at. in_pixels image test at || in_pixels image other at) block
    (λ at. spread (nat_le image.offset at) (nat_lt (row_of image at) image.height) (nat_lt (place_in_row image at) (4 * image.width)) (test (place_in_row image at / 4) (row_of image at)) (other (place_in_row image at / 4) (row_of image at)))
    ∙ holds_either (in_pixels image test) (in_pixels image other) block

pub or_assoc : (x y z : Bool) → ((x || y) || z) ≡ (x || (y || z))
or_assoc true y z = refl
or_assoc false y z = refl

pub or_false : (x : Bool) → x ≡ (x || false)
or_false true = refl
or_false false = refl

-- nothing was added yet
pub none_added : (image : Image) (test : ℕ → ℕ → Bool) (block : ℕ) (first : Bool) → ((bx by : ℕ) → bx < image.width → by < image.height → test bx by ≡ false) → first ≡ (first || holds (in_pixels image test) block)
none_added image test block first none = or_false first ∙ ap (λ t. first || t) (sym (pixels_none image test block none))

-- the blocks of some pixels, and then those of others
pub more_added : (image : Image) (test other both : ℕ → ℕ → Bool) (block : ℕ) (first old new : Bool) → ((bx by : ℕ) → bx < image.width → by < image.height → both bx by ≡ (test bx by || other bx by)) → old ≡ (first || holds (in_pixels image test) block) → new ≡ (old || holds (in_pixels image other) block) → new ≡ (first || holds (in_pixels image both) block)
more_added image test other both block first old new joined before after =
    after ∙ ap (λ t. t || holds (in_pixels image other) block) before
    ∙ or_assoc first (holds (in_pixels image test) block) (holds (in_pixels image other) block)
    ∙ ap (λ t. first || t) (sym (pixels_same image both (λ bx by. test bx by || other bx by) block joined ∙ pixels_either image test other block))

-- the same pixels, said another way
pub added_same : (image : Image) (test other : ℕ → ℕ → Bool) (block : ℕ) (first new : Bool) → ((bx by : ℕ) → bx < image.width → by < image.height → test bx by ≡ other bx by) → new ≡ (first || holds (in_pixels image test) block) → new ≡ (first || holds (in_pixels image other) block)
added_same image test other block first new same added = added ∙ ap (λ t. first || t) (pixels_same image test other block same)

-- ---- runs of columns, row by row

and_or : (x p q : Bool) → (x && (p || q)) ≡ ((x && p) || (x && q))
and_or true p q = refl
and_or false p q = refl

or_and : (p q x : Bool) → ((p || q) && x) ≡ ((p && x) || (q && x))
or_and true true true = refl
or_and true true false = refl
or_and true false true = refl
or_and true false false = refl
or_and false q x = refl

-- one more run of columns
pub run_joined : (columns : List Run) (i : ℕ) (d : Run) (row bx by : ℕ) → i < length columns → (eqb by row && has bx (take (i + 1) columns)) ≡ ((eqb by row && has bx (take i columns)) || in_stretch row (get_or columns i d).first (get_or columns i d).end bx by)
run_joined columns i d row bx by within =
    let run : Run = get_or columns i d in
    ap (λ t. eqb by row && t) (ap (has bx) (take_more columns i d within) ∙ has-append bx (take i columns) (run ∷ []) ∙ ap (λ t. has bx (take i columns) || t) (sym (or_false (lies_within run.first run.end bx))))
    ∙ and_or (eqb by row) (has bx (take i columns)) (lies_within run.first run.end bx)

row_more : (first row by : ℕ) → first ≤ row → lies_within first (row + 1) by ≡ (lies_within first row by || eqb by row)
row_more first row by from = grind (arith, nat_tests)

-- one more row
pub row_joined : (columns : List Run) (first row bx by : ℕ) → first ≤ row → (lies_within first (row + 1) by && has bx columns) ≡ ((lies_within first row by && has bx columns) || (eqb by row && has bx columns))
row_joined columns first row bx by from = ap (λ t. t && has bx columns) (row_more first row by from) ∙ or_and (lies_within first row by) (eqb by row) (has bx columns)

-- no row is from a row on and before it
pub no_row : (columns : List Run) (row bx by : ℕ) → (lies_within row row by && has bx columns) ≡ false
no_row columns row bx by = let none : lies_within row row by ≡ false = grind (arith, nat_tests) in ap (λ t. t && has bx columns) none

-- a run of columns lies in the image's row
pub run_lies : (columns : List Run) (width i : ℕ) (d : Run) → Rises columns → EndsBy width columns → i < length columns → ((get_or columns i d).first < (get_or columns i d).end) × ((get_or columns i d).end ≤ width)
run_lies columns width i d rises ends within =
    (rises_each 0 columns rises i d within, All-from_recursion (λ (run : Run). run.end ≤ width) columns ends i d within)

-- one more run of columns was added
pub run_added : (image : Image) (told row start : ℕ) (columns : List Run) (i : ℕ) (d : Run) (first end block : ℕ) (begun old new : Bool) → LiesIn image told → row < image.height → start ≡ image.offset + image.stride * row → Rises columns → EndsBy image.width columns → i < length columns → first ≡ (get_or columns i d).first → end ≡ (get_or columns i d).end → old ≡ (begun || holds (in_pixels image (λ bx by. eqb by row && has bx (take i columns))) block) → new ≡ (old || meets (start + 4 * first) (start + 4 * end) block) → new ≡ (begun || holds (in_pixels image (λ bx by. eqb by row && has bx (take (i + 1) columns))) block)
run_added image told row start columns i d first end block begun old new lies row_in is rises ends within from till before after =
    let run : Run = get_or columns i d in
    let run_in = run_lies columns image.width i d rises ends within in
    more_added image (λ bx by. eqb by row && has bx (take i columns)) (in_stretch row run.first run.end) (λ bx by. eqb by row && has bx (take (i + 1) columns)) block begun old new
    (λ bx by w h. run_joined columns i d row bx by within) before
    (after ∙ ap (λ n. old || meets (start + 4 * n) (start + 4 * end) block) from ∙ ap (λ n. old || meets (start + 4 * run.first) (start + 4 * n) block) till
    ∙ ap (λ t. old || t) (stretch_holds image told row run.first run.end block start lies is row_in run_in.1 run_in.0))

and_false : (x : Bool) → (x && false) ≡ false
and_false true = refl
and_false false = refl

-- no run of columns was added yet
pub no_run : (columns : List Run) (row bx by : ℕ) → (eqb by row && has bx (take 0 columns)) ≡ false
no_run columns row bx by = and_false (eqb by row)
