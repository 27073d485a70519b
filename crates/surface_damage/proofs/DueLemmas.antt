-- From the blocks that the code adds to those that hold a due byte.
use Rattle.std.proofs.Common.{◌≡◌, ℕ, ◌+◌, ◌*◌, ◌<◌, ◌≤◌, Bool, true, false, cond, ◌||◌, List, [], ◌++◌, take, ap, ◌∙◌, sym, subst, arith, Some, None, max, leb, ltb, Result, Ok, Err, OnOk, IsTrue, rules}
use Rattle.std.specs.Prelude.{MatchBool, unsigned_abs, ℤ, pos, negsuc, ◌≤ℤ◌, ◌<ℤ◌}
use Rattle.std.proofs.lemmas.Int.{ints}
use Rattle.std.specs.List.{flat_map}
use Rattle.std.proofs.lemmas.Bool.{cond-true, cond-false, and_parts, and_from, leb-true, ltb-true, le-leb, lt-ltb}
use Rattle.std.proofs.lemmas.List.Folds.{list_any-append}
use Rattle.block_intervals.specs.declared.run.Run.{Run}
use Rattle.block_intervals.specs.Sets.{has, lies_within}
use Rattle.shm_pools.specs.Buffers.{has_pixels, fits_in, image_fits, bytes_fit, FitsImage, FitsBytes, Fits as FitsIn}
use Rattle.shm_pools.specs.declared.buffers.Buffer.{Buffer}
use Rattle.surface_damage.specs.declared.area.Area.{Area}
use Rattle.surface_damage.specs.declared.rect.Damage.{Damage}
use Rattle.surface_damage.specs.declared.history.BufferKey.{BufferKey}
use Rattle.surface_damage.specs.declared.history.Geometry.{Geometry}
use Rattle.surface_damage.specs.declared.view.View.{View}
use Rattle.surface_damage.specs.Areas.{some_holds}
use Rattle.surface_damage.specs.History.{SurfaceState, Committed}
use Rattle.surface_damage.specs.Images.{image_of, in_pixels, holds, meets}
use Rattle.surface_damage.specs.DueBytes.{geometry_of, commits_since, damage_since, pixel_due_since, pixel_is_due, byte_is_due, is_covered}
use Rattle.surface_damage.specs.Views.{covers_in, some_covers}
use Rattle.surface_damage.proofs.AnyLemmas.{same_test, any_found, holds_byte, holds_same}
use Rattle.surface_damage.proofs.ImageLemmas.{pixels_same, added_same}

-- where a buffer fits, by the tests and in words
pub fits_words : (b : Buffer) (told : ℕ) → IsTrue (fits_in b told) → FitsIn b told
fits_words b told fits = by (has_pixels b.format) fits
  where
    by : (t : Bool) → IsTrue (cond t (image_fits b told) (bytes_fit b told)) → MatchBool t (FitsImage b told) (FitsBytes b told)
    by true fit = search rules
    by false fit = search rules

-- the pixels of the areas of pending damage, and of that of earlier commits
pub since_pixels : (view : View) (pending earlier : List Damage) (none some all : List Area) (bx by : ℕ) → none ≡ [] → some_holds some bx by ≡ (some_holds none bx by || some_covers view pending bx by) → some_holds all bx by ≡ (some_holds some bx by || some_covers view earlier bx by) → some_holds all bx by ≡ some_covers view (pending ++ earlier) bx by
since_pixels view pending earlier none some all bx by is before after =
    after ∙ ap (λ t. t || some_covers view earlier bx by) (before ∙ ap (λ list. some_holds list bx by || some_covers view pending bx by) is)
    ∙ sym (list_any-append (covers_in view bx by) pending earlier)

-- all pixels are due
pub due_whole : (s : SurfaceState) (key : BufferKey) (b : Buffer) (block : ℕ) → commits_since s key (geometry_of s b) ≡ None → holds (in_pixels (image_of b) (λ bx by. true)) block ≡ holds (in_pixels (image_of b) (pixel_is_due s key b)) block
due_whole s key b block none = pixels_same (image_of b) (λ bx by. true) (pixel_is_due s key b) block (λ bx by across down. ap (λ t. pixel_due_since s b t bx by) (sym none))

-- the pixels that were damaged are due
pub due_part : (s : SurfaceState) (key : BufferKey) (b : Buffer) (back block : ℕ) → commits_since s key (geometry_of s b) ≡ Some back → holds (in_pixels (image_of b) (is_covered s b (damage_since s back))) block ≡ holds (in_pixels (image_of b) (pixel_is_due s key b)) block
due_part s key b back block some = pixels_same (image_of b) (is_covered s b (damage_since s back)) (pixel_is_due s key b) block (λ bx by across down. ap (λ t. pixel_due_since s b t bx by) (sym some))

pub due_image : (s : SurfaceState) (key : BufferKey) (b : Buffer) (told block : ℕ) → has_pixels b.format ≡ true → holds (in_pixels (image_of b) (pixel_is_due s key b)) block ≡ holds (byte_is_due s key b told) block
due_image s key b told block four =
    holds_same (in_pixels (image_of b) (pixel_is_due s key b)) (byte_is_due s key b told) block (λ at. sym (cond-true (has_pixels b.format) _ _ four))

max_above : (a b : ℕ) → b ≤ max a b
max_above a b = omega arith

max_below : (a b c : ℕ) → a < c → b < c → max a b < c
max_below a b c l h = omega arith

-- a stretch of bytes
pub holds_stretch : (first end block : ℕ) → first < end → meets first end block ≡ holds (lies_within first end) block
holds_stretch first end block some =
    same_test (meets first end block) (holds (lies_within first end) block)
    (λ e. let p = and_parts (ltb first (64 * block + 64)) (ltb (64 * block) end) e in
    let ends : first < 64 * block + 64 = ltb-true _ _ p.0 in
    let begins : 64 * block < end = ltb-true _ _ p.1 in
    holds_byte (lies_within first end) block (max (64 * block) first) (omega arith) (omega arith) (and_from _ _ (le-leb _ _ (max_above (64 * block) first)) (lt-ltb _ _ (max_below (64 * block) first end begins some))))
    (λ e. let f = any_found (λ k. lies_within first end (64 * block + k)) 64 e in
    let p = and_parts (leb first (64 * block + f.at)) (ltb (64 * block + f.at) end) f.passes in
    let k : f.at < 64 = f.below in
    let low : first ≤ 64 * block + f.at = leb-true _ _ p.0 in
    let up : 64 * block + f.at < end = ltb-true _ _ p.1 in
    let ends : first < 64 * block + 64 = omega arith in
    let begins : 64 * block < end = omega arith in
    and_from _ _ (lt-ltb _ _ ends) (lt-ltb _ _ begins))

pub due_bytes : (s : SurfaceState) (key : BufferKey) (b : Buffer) (told block : ℕ) → has_pixels b.format ≡ false → unsigned_abs b.offset < told → meets (unsigned_abs b.offset) told block ≡ holds (byte_is_due s key b told) block
due_bytes s key b told block other some =
    holds_stretch (unsigned_abs b.offset) told block some
    ∙ holds_same (lies_within (unsigned_abs b.offset) told) (byte_is_due s key b told) block (λ at. sym (cond-false (has_pixels b.format) _ _ other))

-- what is added of an image of which a part is due
pub part_after : {E : Type 0} (r : Result (Unit {0}) E) (view : View) (s : SurfaceState) (key : BufferKey) (b : Buffer) (told back : ℕ) (g : Geometry) (old new : List Run) → view ≡ record { image = image_of b; told = told; scale = s.scale; transform = s.transform } → g ≡ geometry_of s b → Some back ≡ commits_since s key g → OnOk r ((block : ℕ) → has block new ≡ (has block old || holds (in_pixels view.image (some_covers view (damage_since s back))) block)) → OnOk r ((block : ℕ) → has block new ≡ (has block old || holds (in_pixels (image_of b) (pixel_is_due s key b)) block))
part_after (Err e) view s key b told back g old new v same since after = tt
part_after (Ok u) view s key b told back g old new v same since after = λ block.
    after block ∙ ap (λ (t : View). has block old || holds (in_pixels t.image (some_covers t (damage_since s back))) block) v
    ∙ ap (λ t. has block old || t) (due_part s key b back block (ap (commits_since s key) (sym same) ∙ sym since))

abs_below : (z : ℤ) (n : ℕ) → pos 0 ≤ℤ z → z <ℤ pos n → unsigned_abs z < n
abs_below (pos k) n low high = omega (arith, ints)
abs_below (negsuc k) n low high = absurd (omega (arith, ints))

-- of a buffer of another format
pub offset_before : (b : Buffer) (told : ℕ) → has_pixels b.format ≡ false → FitsIn b told → unsigned_abs b.offset < told
offset_before b told other fits =
    let bytes : FitsBytes b told = subst (λ (t : Bool). MatchBool t (FitsImage b told) (FitsBytes b told)) other fits in
    abs_below b.offset told bytes.begins bytes.ends

pub bytes_after : {E : Type 0} (r : Result (Unit {0}) E) (s : SurfaceState) (key : BufferKey) (b : Buffer) (told first end : ℕ) (old new : List Run) → first ≡ unsigned_abs b.offset → end ≡ told → false ≡ has_pixels b.format → FitsIn b told → OnOk r ((block : ℕ) → has block new ≡ (has block old || meets first end block)) → OnOk r ((block : ℕ) → has block new ≡ (has block old || holds (byte_is_due s key b told) block))
bytes_after (Err e) s key b told first end old new f t other fits after = tt
bytes_after (Ok u) s key b told first end old new f t other fits after = λ block.
    after block ∙ ap (λ n. has block old || meets n end block) f ∙ ap (λ n. has block old || meets (unsigned_abs b.offset) n block) t
    ∙ ap (λ x. has block old || x) (due_bytes s key b told block (sym other) (offset_before b told (sym other) fits))
