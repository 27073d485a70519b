-- Areas of an image as a row goes down it, band by band.
--
-- At each band the areas are cut in two lists: those that were taken up, and those that wait, which begin at the row or below
-- it. Together they have, from the row on, the pixels of all areas. Of those taken up the ones that ended above the row are
-- dropped, which loses no pixel from the row on. In the rows of a band each active area has all its columns, and no area that
-- waits has a pixel.
use Rattle.std.proofs.Common.{◌≡◌, ℕ, suc, ◌+◌, ◌-◌, ◌<◌, ◌≤◌, Bool, true, false, ◌&&◌, ◌||◌, List, [], ◌∷◌, length, get_or, insert, take, drop, ltb, refl, ap, ◌∙◌, sym, subst, arith, ⊎_elim}
use Rattle.std.specs.List.{All, filter, list_any}
use Rattle.std.specs.List.Sorted.{IsNonDecreasingBy}
use Rattle.std.proofs.lemmas.Bool.{false≢true, true≢false, or_cases, cases_lt, ltb-true, lt-ltb, le-ltb, cond_both}
use Rattle.std.proofs.lemmas.Bool.Decides.{nat_tests}
use Rattle.std.proofs.lemmas.List.{take_all}
use Rattle.std.proofs.lemmas.List.Elements.{All-cons, All-tail, All-filter, filter_passes}
use Rattle.std.proofs.lemmas.List.Sorted.{IsPermutation-insert, All-permutation, list_any-IsPermutation}
use Rattle.block_intervals.specs.declared.run.Run.{Run}
use Rattle.block_intervals.specs.Sets.{has, lies_within}
use Rattle.surface_damage.specs.declared.area.Area.{Area}
use Rattle.surface_damage.specs.declared.image.Image.{Image}
use Rattle.surface_damage.specs.Areas.{holds_pixel, some_holds, some_column, IsPart}
use Rattle.surface_damage.specs.Sweeps.{AreActive, AreWaiting, HaveSame}
use Rattle.surface_damage.proofs.ImageLemmas.{lies_from, lies_parts, or_false}

-- ---- those that wait

pub order_tail : (area : Area) (areas : List Area) → IsNonDecreasingBy (λ (a : Area). a.rows.first) (area ∷ areas) → IsNonDecreasingBy (λ (a : Area). a.rows.first) areas
order_tail area areas order i j d le within = order (suc i) (suc j) d (omega arith) (omega arith)

-- none of them begins before the first
pub order_head : (area : Area) (areas : List Area) → IsNonDecreasingBy (λ (a : Area). a.rows.first) (area ∷ areas) → All (λ a. area.rows.first ≤ a.rows.first) (area ∷ areas)
order_head area areas order k d within = order 0 k d (omega arith) within

pub waiting_tail : (image : Image) (row : ℕ) (area : Area) (areas : List Area) → AreWaiting image row (area ∷ areas) → AreWaiting image row areas
waiting_tail image row area areas waits = record {
  parts = All-tail (IsPart image) area areas waits.parts;
  order = order_tail area areas waits.order;
  later = All-tail (λ a. row ≤ a.rows.first) area areas waits.later;
}

-- from a row on above which none begins
pub waiting_from : (image : Image) (row from : ℕ) (areas : List Area) → AreWaiting image row areas → All (λ a. from ≤ a.rows.first) areas → AreWaiting image from areas
waiting_from image row from areas waits later = record { parts = waits.parts; order = waits.order; later = later }

pub waiting_past : (image : Image) (row : ℕ) (area : Area) (areas : List Area) → AreWaiting image row (area ∷ areas) → row < area.rows.first → AreWaiting image (row + 1) (area ∷ areas)
waiting_past image row area areas waits past =
    waiting_from image row (row + 1) (area ∷ areas) waits
    (λ k d within. let from : area.rows.first ≤ (get_or (area ∷ areas) k d).rows.first = order_head area areas waits.order k d within in omega arith)

pub waiting_none : (image : Image) (row : ℕ) → AreWaiting image row []
waiting_none image row = record {
  parts = λ k d within. absurd (omega arith);
  order = λ i j d le within. absurd (omega arith);
  later = λ k d within. absurd (omega arith);
}

-- ---- those that are active

all_inserted : (P : Area → Type 0) (areas : List Area) (i : ℕ) (area : Area) → P area → All P areas → All P (insert areas i area)
all_inserted P areas i area here all =
    All-permutation P (area ∷ areas) (insert areas i area) (IsPermutation-insert areas i area) (All-cons P area areas here all)

-- one more, which begins at the row
pub active_more : (image : Image) (row : ℕ) (areas later : List Area) (i : ℕ) (area : Area) → AreActive image row areas → AreWaiting image row (area ∷ later) → area.rows.first ≤ row → AreActive image row (insert areas i area)
active_more image row areas later i area active waits begun =
    let part : IsPart image area = waits.parts 0 area (omega arith) in
    let down : area.rows.first < area.rows.end = part.down in
    let from : row ≤ area.rows.first = waits.later 0 area (omega arith) in
    record {
      parts = all_inserted (IsPart image) areas i area part active.parts;
      begun = all_inserted (λ a. a.rows.first ≤ row) areas i area begun active.begun;
      unended = all_inserted (λ a. row < a.rows.end) areas i area (omega arith) active.unended;
    }

rotate : (x y z : Bool) → ((x || y) || z) ≡ (y || (x || z))
rotate true true z = refl
rotate true false z = refl
rotate false true z = refl
rotate false false z = refl

-- it moves from one list to the other
pub same_more : (active later these those : List Area) (i : ℕ) (area : Area) → HaveSame active (area ∷ later) these those → HaveSame (insert active i area) later these those
same_more active later these those i area same bx by =
    ap (λ t. t || some_holds later bx by) (sym (list_any-IsPermutation (λ (a : Area). holds_pixel a bx by) (area ∷ active) (insert active i area) (IsPermutation-insert active i area)))
    ∙ rotate (holds_pixel area bx by) (some_holds active bx by) (some_holds later bx by) ∙ same bx by

-- what is known of the two lists while areas are taken up
pub record IsTakingUp (image : Image) (row : ℕ) (active left these those : List Area) : Type 0 where
  pub actives : AreActive image row active
  pub waits : AreWaiting image row left
  pub same : HaveSame active left these those

-- the first of those that wait is taken up
pub taken_up : (image : Image) (row i : ℕ) (active left these those inserted : List Area) (d : Area) → IsTakingUp image row active left these those → 1 ≤ length left → (get_or left 0 d).rows.first ≤ row → inserted ≡ insert active i (get_or left 0 d) → IsTakingUp image row inserted (take (length left - 1) (drop 1 left)) these those
taken_up image row i active [] these those inserted d taking some begun is = absurd (omega arith)
taken_up image row i active (area ∷ later) these those inserted d taking some begun is =
    let all : take (length (area ∷ later) - 1) later ≡ later = take_all (length (area ∷ later) - 1) later (omega arith) in
    subst (λ (list : List Area). IsTakingUp image row list (take (length (area ∷ later) - 1) later) these those) (sym is)
    (subst (λ (list : List Area). IsTakingUp image row (insert active i area) list these those) (sym all)
    (record {
      actives = active_more image row active later i area taking.actives taking.waits begun;
      waits = waiting_tail image row area later taking.waits;
      same = same_more active later these those i area taking.same;
    }))

-- none that waits begins at the row any more
pub none_begins : (image : Image) (row : ℕ) (left : List Area) (d : Area) → AreWaiting image row left → (1 ≤ length left → row < (get_or left 0 d).rows.first) → AreWaiting image (row + 1) left
none_begins image row [] d waits past = waiting_none image (row + 1)
none_begins image row (area ∷ later) d waits past = waiting_past image row area later waits (past (omega arith))

-- ---- those that ended

abbrev pub lasts : ℕ → Area → Bool
lasts row area = ltb row area.rows.end

pub active_kept : (image : Image) (row : ℕ) (areas : List Area) → All (IsPart image) areas → All (λ a. a.rows.first ≤ row) areas → AreActive image row (filter (lasts row) areas)
active_kept image row areas parts begun = record {
  parts = All-filter (lasts row) (IsPart image) areas parts;
  begun = All-filter (lasts row) (λ a. a.rows.first ≤ row) areas begun;
  unended = λ k d within. ltb-true row (get_or (filter (lasts row) areas) k d).rows.end (filter_passes (lasts row) areas k d within);
}

and_none : (x y : Bool) → y ≡ false → (x && y) ≡ false
and_none true y none = none
and_none false y none = refl

-- an area that ended has no pixel from the row on
ended_none : (row bx by : ℕ) (area : Area) → lasts row area ≡ false → row ≤ by → holds_pixel area bx by ≡ false
ended_none row bx by area ended from =
    and_none (lies_within area.columns.first area.columns.end bx) (lies_within area.rows.first area.rows.end by) (grind (arith, nat_tests))

pub kept_holds : (row bx by : ℕ) (areas : List Area) → row ≤ by → some_holds (filter (lasts row) areas) bx by ≡ some_holds areas bx by
kept_holds row bx by [] from = refl
kept_holds row bx by (area ∷ areas) from =
    cond_both (lasts row area) (area ∷ filter (lasts row) areas) (filter (lasts row) areas) (λ kept. some_holds kept bx by ≡ some_holds (area ∷ areas) bx by)
    (λ lasting. ap (λ t. holds_pixel area bx by || t) (kept_holds row bx by areas from))
    (λ ended. kept_holds row bx by areas from ∙ ap (λ t. t || some_holds areas bx by) (sym (ended_none row bx by area ended from)))

-- ---- a band

and_whole : (x y : Bool) → y ≡ true → (x && y) ≡ x
and_whole true y whole = whole
and_whole false y whole = refl

-- in its rows each active area has all its columns
pub band_columns : (row end bx by : ℕ) (areas : List Area) → row ≤ by → by < end → All (λ a. a.rows.first ≤ row) areas → All (λ a. end ≤ a.rows.end) areas → some_holds areas bx by ≡ some_column areas bx
band_columns row end bx by [] from till begun unended = refl
band_columns row end bx by (area ∷ areas) from till begun unended =
    let first : area.rows.first ≤ row = begun 0 area (omega arith) in
    let last : end ≤ area.rows.end = unended 0 area (omega arith) in
    ap (λ t. t || some_holds areas bx by) (and_whole (lies_within area.columns.first area.columns.end bx) (lies_within area.rows.first area.rows.end by) (lies_from area.rows.first area.rows.end by (omega arith) (omega arith)))
    ∙ ap (λ t. lies_within area.columns.first area.columns.end bx || t) (band_columns row end bx by areas from till (All-tail (λ a. a.rows.first ≤ row) area areas begun) (All-tail (λ a. end ≤ a.rows.end) area areas unended))

-- and none that waits has a pixel
pub band_waiting : (end bx by : ℕ) (areas : List Area) → by < end → All (λ a. end ≤ a.rows.first) areas → some_holds areas bx by ≡ false
band_waiting end bx by [] till later = refl
band_waiting end bx by (area ∷ areas) till later =
    let first : end ≤ area.rows.first = later 0 area (omega arith) in
    let none : lies_within area.rows.first area.rows.end by ≡ false = grind (arith, nat_tests) in
    ap (λ t. t || some_holds areas bx by) (and_none (lies_within area.columns.first area.columns.end bx) (lies_within area.rows.first area.rows.end by) none)
    ∙ band_waiting end bx by areas till (All-tail (λ a. end ≤ a.rows.first) area areas later)

joined : (whole above here all columns : Bool) → whole ≡ (above || here) → (above ≡ true → here ≡ false) → (here ≡ true → all ≡ columns) → (whole && all) ≡ ((above && all) || (here && columns))
joined whole true true all columns is apart same = absurd (true≢false (apart refl))
joined whole true false all columns is apart same = ap (λ t. t && all) is ∙ or_false all
joined whole false true all columns is apart same = ap (λ t. t && all) is ∙ same refl
joined whole false false all columns is apart same = ap (λ t. t && all) is

rows_joined : (row end by : ℕ) → row ≤ end → ltb by end ≡ (ltb by row || lies_within row end by)
rows_joined row end by order = grind (arith, nat_tests)

rows_apart : (row end by : ℕ) → ltb by row ≡ true → lies_within row end by ≡ false
rows_apart row end by above = grind (arith, nat_tests)

-- the pixels above the band and those of the band are the pixels above its end
pub band_joined : (areas : List Area) (columns : List Run) (row end bx by : ℕ) → row ≤ end → (row ≤ by → by < end → some_holds areas bx by ≡ has bx columns) → (ltb by end && some_holds areas bx by) ≡ ((ltb by row && some_holds areas bx by) || (lies_within row end by && has bx columns))
band_joined areas columns row end bx by order same =
    joined (ltb by end) (ltb by row) (lies_within row end by) (some_holds areas bx by) (has bx columns) (rows_joined row end by order) (rows_apart row end by)
    (λ here. let parts = lies_parts row end by here in same parts.0 parts.1)

-- ---- columns

-- every column of parts of an image is one of the image
pub columns_within : (image : Image) (areas : List Area) → All (IsPart image) areas → (bx : ℕ) → some_column areas bx ≡ true → bx < image.width
columns_within image [] parts bx is = absurd (false≢true is)
columns_within image (area ∷ areas) parts bx is =
    ⊎_elim
    (λ here. let part : IsPart image area = parts 0 area (omega arith) in
    let till : bx < area.columns.end = (lies_parts area.columns.first area.columns.end bx here).1 in
    let within : area.columns.end ≤ image.width = part.columns_in in
    omega arith)
    (λ later. columns_within image areas (All-tail (IsPart image) area areas parts) bx later)
    (or_cases (lies_within area.columns.first area.columns.end bx) (some_column areas bx) is)

-- ---- from band to band

-- the areas above a row were swept: those that were taken up begin above it, those that wait do not, and from the row on both
-- have together the pixels of all
pub record IsSwept (image : Image) (areas : List Area) (row : ℕ) (taken waiting : List Area) : Type 0 where
  pub parts : All (IsPart image) taken
  pub begun : All (λ a. a.rows.first ≤ row) taken
  pub waits : AreWaiting image row waiting
  pub same : (bx by : ℕ) → row ≤ by → (some_holds taken bx by || some_holds waiting bx by) ≡ some_holds areas bx by

-- at the first row
pub swept_first : (image : Image) (areas taken : List Area) → taken ≡ [] → All (IsPart image) areas → IsNonDecreasingBy (λ (a : Area). a.rows.first) areas → IsSwept image areas 0 taken areas
swept_first image areas taken none parts order =
    subst (λ (list : List Area). IsSwept image areas 0 list areas) (sym none)
    (record {
      parts = λ k d within. absurd (omega arith);
      begun = λ k d within. absurd (omega arith);
      waits = record { parts = parts; order = order; later = λ k d within. omega arith };
      same = λ bx by from. refl;
    })

pub swept_kept : (image : Image) (areas taken waiting kept : List Area) (row : ℕ) → IsSwept image areas row taken waiting → kept ≡ filter (lasts row) taken → AreActive image row kept
swept_kept image areas taken waiting kept row swept is = subst (AreActive image row) (sym is) (active_kept image row taken swept.parts swept.begun)

-- the pixels from the row on, of those that are active and those that still wait
active_same : (image : Image) (areas taken waiting kept active left : List Area) (row bx by : ℕ) → IsSwept image areas row taken waiting → kept ≡ filter (lasts row) taken → HaveSame active left kept waiting → row ≤ by → (some_holds active bx by || some_holds left bx by) ≡ some_holds areas bx by
active_same image areas taken waiting kept active left row bx by swept is same from =
    same bx by ∙ ap (λ t. t || some_holds waiting bx by) (ap (λ list. some_holds list bx by) is ∙ kept_holds row bx by taken from) ∙ swept.same bx by from

-- at the end of a band
pub swept_next : (image : Image) (areas taken waiting kept active left : List Area) (row end : ℕ) → IsSwept image areas row taken waiting → kept ≡ filter (lasts row) taken → AreActive image row active → AreWaiting image (row + 1) left → HaveSame active left kept waiting → row ≤ end → All (λ a. end ≤ a.rows.first) left → IsSwept image areas end active left
swept_next image areas taken waiting kept active left row end swept is actives waits same order later = record {
  parts = actives.parts;
  begun = λ k d within. let first : (get_or active k d).rows.first ≤ row = actives.begun k d within in omega arith;
  waits = waiting_from image (row + 1) end left waits later;
  same = λ bx by from. active_same image areas taken waiting kept active left row bx by swept is same (omega arith);
}

-- the pixels of a band are those in the columns of the areas that are active
pub band_same : (image : Image) (areas taken waiting kept active left : List Area) (columns : List Run) (row end bx by : ℕ) → IsSwept image areas row taken waiting → kept ≡ filter (lasts row) taken → AreActive image row active → HaveSame active left kept waiting → All (λ a. end ≤ a.rows.end) active → All (λ a. end ≤ a.rows.first) left → ((bx : ℕ) → has bx columns ≡ some_column active bx) → row ≤ by → by < end → some_holds areas bx by ≡ has bx columns
band_same image areas taken waiting kept active left columns row end bx by swept is actives same unended later columns_are from till =
    sym (active_same image areas taken waiting kept active left row bx by swept is same from)
    ∙ ap (λ t. some_holds active bx by || t) (band_waiting end bx by left till later) ∙ sym (or_false (some_holds active bx by))
    ∙ band_columns row end bx by active from till actives.begun unended ∙ sym (columns_are bx)

-- from the last row on nothing is left
pub swept_all : (height : ℕ) (row by : ℕ) (x : Bool) → height ≤ row → by < height → (ltb by row && x) ≡ x
swept_all height row by x past within = let above : ltb by row ≡ true = lt-ltb by row (omega arith) in ap (λ t. t && x) above

-- a band has a row at least, where its end is the greatest that there can be
pub band_some : (row end height : ℕ) (seen active left : List Area) → seen ≡ active → ((from : ℕ) → from < height → All (λ a. from < a.rows.end) seen → All (λ a. from < a.rows.first) left → from < end) → row < height → All (λ a. row < a.rows.end) active → All (λ a. row + 1 ≤ a.rows.first) left → row < end
band_some row end height seen active left is least within unended later =
    least row within (subst (λ (list : List Area). All (λ a. row < a.rows.end) list) (sym is) unended)
    (λ k d l. let from : row + 1 ≤ (get_or left k d).rows.first = later k d l in omega arith)
