-- FILL frames bring the bytes of pieces into the mirror of their rid, and leave all other bytes and mirrors as they are.
use Rattle.std.proofs.Common.{◌≡◌, ℕ, ◌+◌, ◌-◌, ◌*◌, ◌/◌, ◌<◌, ◌≤◌, true, false, leb, List, [], ◌∷◌, ◌++◌, length, get_or, take, drop, ℤ, flat_map, Option, Some, option_map, ◌⊎◌, inl, inr, ⊎_elim, refl, sym, ap, ◌∙◌, arith, length-drop, take-append-drop}
use Rattle.std.proofs.Math.Dec.{ltb}
use Rattle.std.proofs.lemmas.Bool.{cond-true, cond-false, and_cases, leb-false, ltb-false, or_parts}
use Rattle.std.proofs.lemmas.Cmp.{int_eq_equiv}
use Rattle.std.proofs.lemmas.List.{length-take-le, nil_from_length, take-take}
use Rattle.std.specs.List.{slice_range}
use Rattle.std.specs.Ordering.{int_eq}
use Rattle.block_intervals.specs.declared.run.Run.{Run}
use Rattle.block_intervals.specs.Sets.{has, lies_within}
use Rattle.transfer_frames.specs.declared.frame.Frame.{Frame}
use Rattle.transfer_frames.specs.declared.frame.Frame.TheVariants.{Fill}
use Rattle.half_model.specs.Filling.{Ascends, fills}
use Rattle.mirror_pools.specs.Mirrors.{replaced}
use Rattle.mirror_pools.specs.Meaning.{mirror_step, mirror_from}
use Rattle.half_model.proofs.Pieces.{blocks_in}
use Rattle.mirror_laws.specs.MirrorLaws.{bytes_at}
use Rattle.mirror_laws.proofs.Replacing.{length-replaced, take-replaced, range-replaced, other-replaced, range_by_front}

pub mirror-append : (rid : ℤ) (xs ys : List Frame) (m : Option (List ℕ)) → mirror_from rid (xs ++ ys) m ≡ mirror_from rid ys (mirror_from rid xs m)
mirror-append rid [] ys m = refl
mirror-append rid (x ∷ xs) ys m = mirror-append rid xs ys (mirror_step rid x m)

pub same_rid : (rid : ℤ) → int_eq rid rid ≡ true
same_rid rid = int_eq_equiv.refl rid

-- a mirror behind the FILL frames of some pieces; what lies before the first of them is as it was
pub record AreFilled (low : ℕ) (pieces : List Run) (bytes old new : List ℕ) : Type 0 where
  pub sized : length new ≡ length old
  pub front : take (64 * low) new ≡ take (64 * low) old
  pub filled : flat_map (bytes_at new) pieces ≡ bytes
  pub others : (i : ℕ) → has (i / 64) pieces ≡ false → get_or new i 0 ≡ get_or old i 0

pub record FilledBehind (rid : ℤ) (low : ℕ) (pieces : List Run) (bytes old : List ℕ) : Type 0 where
  pub new : List ℕ
  pub is : mirror_from rid (fills rid pieces bytes) (Some old) ≡ Some new
  pub are : AreFilled low pieces bytes old new

pub ends_by : (low : ℕ) (pieces : List Run) (high : ℕ) → Ascends low pieces high → low ≤ high
ends_by low [] high h = h
ends_by low (piece ∷ pieces) high h = let later = ends_by piece.end pieces high h.2 in omega (arith, h.0, h.1, later)

-- a byte of none of these blocks lies before or behind them
pub outside : (first end i : ℕ) → lies_within first end (i / 64) ≡ false → (i < 64 * first) ⊎ (64 * end ≤ i)
outside first end i e =
    ⊎_elim
    (λ below. inl (let l = leb-false first (i / 64) below in omega (arith, l)))
    (λ above. inr (let l = ltb-false (i / 64) end above in omega (arith, l)))
    (and_cases (leb first (i / 64)) (ltb (i / 64) end) e)

filled_one : (low high : ℕ) (piece : Run) (pieces : List Run) (bytes old new : List ℕ)
    → Ascends low (piece ∷ pieces) high → 64 * high ≤ length old → length bytes ≡ 64 * blocks_in (piece ∷ pieces)
    → (let count : ℕ = 64 * (piece.end - piece.first) in AreFilled piece.end pieces (drop count bytes) (replaced (64 * piece.first) (take count bytes) old) new)
    → AreFilled low (piece ∷ pieces) bytes old new
filled_one low high piece pieces bytes old new asc fits len rest =
    let count : ℕ = 64 * (piece.end - piece.first) in
    let part : List ℕ = take count bytes in
    let mid : List ℕ = replaced (64 * piece.first) part old in
    let taken : length part ≡ count = length-take-le count bytes (omega (arith, len)) in
    let later : piece.end ≤ high = ends_by piece.end pieces high asc.2 in
    let end : 64 * piece.first + length part ≡ 64 * piece.end = omega (arith, taken, asc.1) in
    let room : 64 * piece.first + length part ≤ length old = omega (arith, end, later, fits) in
    let front : take (64 * low) new ≡ take (64 * low) mid = shorter (64 * low) (64 * piece.end) new mid (omega (arith, asc.0, asc.1)) rest.front in
    let own : bytes_at new piece ≡ part =
    range_by_front new mid (64 * piece.first) (64 * piece.end) (omega (arith, asc.1)) rest.front
    ∙ ap (λ (n : ℕ). slice_range mid (64 * piece.first) n) (sym end)
    ∙ range-replaced (64 * piece.first) part old room in
    record {
      sized = rest.sized ∙ length-replaced (64 * piece.first) part old room;
      front = front ∙ take-replaced (64 * piece.first) part old room (64 * low) (omega (arith, asc.0));
      filled = ap (λ (xs : List ℕ). xs ++ flat_map (bytes_at new) pieces) own ∙ ap (λ (xs : List ℕ). part ++ xs) rest.filled ∙ take-append-drop count bytes;
      others = λ i e.
          let both = or_parts (lies_within piece.first piece.end (i / 64)) (has (i / 64) pieces) e in
          rest.others i both.1
          ∙ other-replaced (64 * piece.first) part old room i
          (⊎_elim (λ below. inl below) (λ above. inr (omega (arith, above, end))) (outside piece.first piece.end i both.0));
    }
  where
    shorter : (n m : ℕ) (xs ys : List ℕ) → n ≤ m → take m xs ≡ take m ys → take n xs ≡ take n ys
    shorter n m xs ys le e = sym (take-take n m xs le) ∙ ap (take n) e ∙ take-take n m ys le

-- the mirror of the rid
fill_step : (rid : ℤ) (frames : List Frame) (start end : ℕ) (part old : List ℕ) (new : Option (List ℕ)) → mirror_from rid frames (Some (replaced start part old)) ≡ new
    → mirror_from rid (Fill rid start end part ∷ frames) (Some old) ≡ new
fill_step rid frames start end part old new e =
    ap (mirror_from rid frames) (cond-true (int_eq rid rid) (Some (replaced start part old)) (Some old) (same_rid rid)) ∙ e

pub fills_own : (rid : ℤ) (low high : ℕ) (pieces : List Run) (bytes old : List ℕ)
    → Ascends low pieces high → 64 * high ≤ length old → length bytes ≡ 64 * blocks_in pieces → FilledBehind rid low pieces bytes old
fills_own rid low high [] bytes old asc fits len = record {
  new = old;
  is = refl;
  are = record { sized = refl; front = refl; filled = sym (nil_from_length bytes (omega (arith, len))); others = λ i e. refl };
}
fills_own rid low high (piece ∷ pieces) bytes old asc fits len =
    let count : ℕ = 64 * (piece.end - piece.first) in
    let part : List ℕ = take count bytes in
    let mid : List ℕ = replaced (64 * piece.first) part old in
    let taken : length part ≡ count = length-take-le count bytes (omega (arith, len)) in
    let left = length-drop count bytes in
    let later : piece.end ≤ high = ends_by piece.end pieces high asc.2 in
    let size : length mid ≡ length old = length-replaced (64 * piece.first) part old (omega (arith, taken, asc.1, later, fits)) in
    let rest = fills_own rid piece.end high pieces (drop count bytes) mid asc.2 (omega (arith, size, fits)) (omega (arith, len, left)) in
    record {
      new = rest.new;
      is = fill_step rid (fills rid pieces (drop count bytes)) (64 * piece.first) (64 * piece.end) part old (Some rest.new) rest.is;
      are = filled_one low high piece pieces bytes old rest.new asc fits len rest.are;
    }

-- the mirror of another rid
pub fills_other : (rid other : ℤ) (pieces : List Run) (bytes : List ℕ) (m : Option (List ℕ)) → int_eq other rid ≡ false → mirror_from rid (fills other pieces bytes) m ≡ m
fills_other rid other [] bytes m apart = refl
fills_other rid other (piece ∷ pieces) bytes m apart =
    let count : ℕ = 64 * (piece.end - piece.first) in
    ap (mirror_from rid (fills other pieces (drop count bytes)))
    (cond-false (int_eq other rid) (option_map (replaced (64 * piece.first) (take count bytes)) m) m apart)
    ∙ fills_other rid other pieces (drop count bytes) m apart
