-- A mirror behind the frames that go before a message's blocks: as long as the told size of its file, and with zeros where it has grown.
use Rattle.std.proofs.Common.{◌≡◌, ℕ, ◌-◌, ◌*◌, ◌/◌, ◌<◌, ◌≤◌, false, List, [], ◌∷◌, length, get_or, replicate, ℤ, Option, Some, None, unwrap_or, ⊎_elim, refl, sym, ap, ◌∙◌, subst, arith, length-append}
use Rattle.std.proofs.lemmas.Bool.{cases_lt}
use Rattle.std.proofs.lemmas.List.{length-replicate, get_or_append_left, get_or-append_right, get_or-replicate, get_or_past, nil_from_length}
use Rattle.std.specs.Ordering.{int_eq}
use Rattle.block_intervals.specs.declared.run.Run.{Run}
use Rattle.surface_damage.specs.Filled.{blocks_of}
use Rattle.half_model.specs.Filling.{Ascends, fills}
use Rattle.mirror_pools.specs.Mirrors.{widened}
use Rattle.mirror_pools.specs.Meaning.{mirror_from}
use Rattle.mirror_pools.specs.Sizes.{rounded}
use Rattle.half_model.proofs.Pieces.{blocks_in}
use Rattle.mirror_laws.specs.MirrorLaws.{IsFilled, Fills}
use Rattle.mirror_laws.proofs.Filling.{fills_own, fills_other}

-- a mirror is as long as the told size, and there is none where no size was told
abbrev pub Sized : Option ℕ → Option (List ℕ) → Type 0
Sized None m = m ≡ None
Sized (Some size) None = ⊥
Sized (Some size) (Some bytes) = length bytes ≡ rounded size

pub record IsGrown (size : ℕ) (old new : List ℕ) : Type 0 where
  pub sized : length new ≡ rounded size
  pub grows : length old ≤ length new
  pub same : (i : ℕ) → get_or new i 0 ≡ get_or old i 0

abbrev pub Grown : Option ℕ → Option (List ℕ) → Option (List ℕ) → Type 0
Grown None old new = (old ≡ None) × (new ≡ None)
Grown (Some size) old None = ⊥
Grown (Some size) old (Some new) = IsGrown size (unwrap_or old []) new

-- ---- one mirror

-- the byte of a new file
abbrev pub blank : ℕ
blank = 0

pub get_or-zeros : (n i : ℕ) → get_or (replicate n blank) i 0 ≡ blank
get_or-zeros n i =
    let P : Type 0 = get_or (replicate n blank) i 0 ≡ blank in
    let len = length-replicate n blank in
    let within : i < n → P = λ below. get_or-replicate n i blank 0 below in
    let behind : n ≤ i → P = λ past. get_or_past (replicate n blank) i 0 (omega (arith, len, past)) in
    ⊎_elim within behind (cases_lt i n)

pub grown_wide : (size : ℕ) (old : List ℕ) → length old ≤ rounded size → IsGrown size old (widened (rounded size) old)
grown_wide size old le =
    let zeros : List ℕ = replicate (rounded size - length old) blank in
    let all = length-append old zeros in
    let more = length-replicate (rounded size - length old) blank in
    let sized : length (widened (rounded size) old) ≡ rounded size = omega (arith, all, more, le) in
    record {
      sized = sized;
      grows = omega (arith, sized, le);
      same = λ i. ⊎_elim
          (λ below. get_or_append_left old zeros 0 i below)
          (λ past. get_or-append_right old zeros (length old) i 0 refl past ∙ get_or-zeros (rounded size - length old) (i - length old) ∙ sym (get_or_past old i 0 past))
          (cases_lt i (length old));
    }

pub grown_same : (told : Option ℕ) (m : Option (List ℕ)) → Sized told m → Grown told m m
grown_same None m h = (h, h)
grown_same (Some size) None h = h
grown_same (Some size) (Some bytes) h = record { sized = h; grows = omega arith; same = λ i. refl }

-- ---- behind the fills

no_blocks : (pieces : List Run) → Ascends 0 pieces 0 → pieces ≡ []
no_blocks [] asc = refl
no_blocks (piece ∷ pieces) asc = absurd (none piece.first piece.end pieces asc.1 asc.2)
  where
    none : (first low : ℕ) (pieces : List Run) → first < low → Ascends low pieces 0 → ⊥
    none first low [] l asc = omega (arith, l, asc)
    none first low (piece ∷ pieces) l asc = none first piece.end pieces (omega (arith, l, asc.0, asc.1)) asc.2

fill_known : (rid : ℤ) (size : ℕ) (pieces : List Run) (bytes old mid : List ℕ) → IsGrown size old mid → Ascends 0 pieces (blocks_of size) → length bytes ≡ 64 * blocks_in pieces
    → (new : List ℕ) × (mirror_from rid (fills rid pieces bytes) (Some mid) ≡ Some new) × IsFilled size pieces bytes old new
fill_known rid size pieces bytes old mid grown asc len =
    let sized = grown.sized in
    let behind = fills_own rid 0 (blocks_of size) pieces bytes mid asc (omega (arith, sized)) len in
    let are = behind.are in
    let same = are.sized in
    let blocks : blocks_of size ≡ length behind.new / 64 = omega (arith, sized, same) in
    let P : ℕ → Type 0 = λ n. Ascends 0 pieces n in
    let grows = grown.grows in (
      behind.new,
      behind.is,
      record {
        sized = same ∙ sized;
        grows = omega (arith, same, grows);
        within = subst P blocks asc;
        filled = are.filled;
        others = λ i e. are.others i e ∙ grown.same i;
      },
    )

-- the mirror of the rid that is filled
pub fills_grown : (rid : ℤ) (told : Option ℕ) (pieces : List Run) (bytes : List ℕ) (old mid : Option (List ℕ))
    → Grown told old mid → Ascends 0 pieces (blocks_of (unwrap_or told 0)) → length bytes ≡ 64 * blocks_in pieces
    → Fills told pieces bytes old (mirror_from rid (fills rid pieces bytes) mid)
fills_grown rid None pieces bytes old mid grown asc len =
    let none : pieces ≡ [] = no_blocks pieces asc in
    let count : blocks_in pieces ≡ 0 = ap blocks_in none in
    (none, nil_from_length bytes (omega (arith, len, count)), grown.0, ap (λ (ps : List Run). mirror_from rid (fills rid ps bytes) mid) none ∙ grown.1)
fills_grown rid (Some size) pieces bytes old None grown asc len = absurd grown
fills_grown rid (Some size) pieces bytes old (Some mid) grown asc len =
    let got = fill_known rid size pieces bytes (unwrap_or old []) mid grown asc len in
    let P : Option (List ℕ) → Type 0 = λ m. Fills (Some size) pieces bytes old m in
    subst P (sym got.1) got.2

-- every other mirror
stays : (told : Option ℕ) (old mid : Option (List ℕ)) → Grown told old mid → Fills told [] [] old mid
stays None old mid grown = (refl, refl, grown.0, grown.1)
stays (Some size) old None grown = grown
stays (Some size) old (Some mid) grown =
    record { sized = grown.sized; grows = grown.grows; within = omega arith; filled = refl; others = λ i e. grown.same i }

pub others_grown : (rid other : ℤ) (told : Option ℕ) (pieces : List Run) (bytes : List ℕ) (old mid : Option (List ℕ))
    → int_eq other rid ≡ false → Grown told old mid → Fills told [] [] old (mirror_from rid (fills other pieces bytes) mid)
others_grown rid other told pieces bytes old mid apart grown =
    let P : Option (List ℕ) → Type 0 = λ m. Fills told [] [] old m in
    subst P (sym (fills_other rid other pieces bytes mid apart)) (stays told old mid grown)

-- a mirror that was filled is as long as the told size
pub sized_filled : (told : Option ℕ) (pieces : List Run) (bytes : List ℕ) (old new : Option (List ℕ)) → Fills told pieces bytes old new → Sized told new
sized_filled None pieces bytes old new h = h.3
sized_filled (Some size) pieces bytes old None h = h
sized_filled (Some size) pieces bytes old (Some new) h = h.sized
