use Rattle.std.proofs.Common.{◌≡◌, ◌+◌, ◌-◌, ◌≤◌, ◌++◌, replicate, ◌∙◌, ℕ, ℤ, List, [], Option, Some, None, length, drop, take, refl, sym, ap, subst, int_cmp, arith, length-append, length-drop}
use Rattle.std.proofs.lemmas.List.{length-take-le, length-replicate}
use Rattle.std.proofs.lemmas.Map.Views.{All-values-insert_entry, All-values-set_value, IfSome-lookup_from_All}
use Rattle.std.specs.BTreeMap.{is_at}
use Rattle.std.specs.Option.{IfSome, option_map}
use Rattle.mirror_pools.specs.Laws.{AreWhole}
use Rattle.mirror_pools.specs.Mirrors.{MirrorState, MirrorsState, mirror_at, mirror_opened, mirror_grown, mirror_filled, put_mirror, replaced, widened, sizes_of, with_grown, with_filled}
use Rattle.mirror_pools.specs.Sizes.{rounded, total, extend_cause, fill_cause, size_at, grow_cause}
use Rattle.mirror_pools.proofs.MirrorLemmas.{size_at-sizes_of, fits-filled}
use Rattle.mirror_pools.proofs.SizeLemmas.{grows}
use Rattle.mirror_pools.proofs.laws.whole_lasts.Goals as goal

abbrev IsWhole : MirrorState → Type 0
IsWhole it = length it.bytes ≡ rounded it.size

length-widened : (size : ℕ) (bytes : List ℕ) → length bytes ≤ size → length (widened size bytes) ≡ size
length-widened size bytes fits =
    omega (arith, length-append bytes (replicate (size - length bytes) 0), length-replicate {A = ℕ} (size - length bytes) 0)

length-replaced : (start : ℕ) (piece bytes : List ℕ) → start + length piece ≤ length bytes
    → length (replaced start piece bytes) ≡ length bytes
length-replaced start piece bytes fits =
    let rest = drop (start + length piece) bytes in
    let within : start ≤ length bytes = omega arith in
    omega (
      arith,
      length-append (take start bytes) (piece ++ rest),
      length-append piece rest,
      length-take-le start bytes within,
      length-drop (start + length piece) bytes,
    )

-- the mirror that a look-up finds
whole-at : (rid : ℤ) (mirrors : MirrorsState) (it : MirrorState) → AreWhole mirrors → mirror_at rid mirrors ≡ Some it → IsWhole it
whole-at rid mirrors it whole is =
    subst (λ (o : Option MirrorState). IfSome o IsWhole) is (IfSome-lookup_from_All IsWhole (is_at (int_cmp rid)) mirrors whole)

of_grown : (rid : ℤ) (size : ℕ) (mirrors : MirrorsState) → AreWhole mirrors
    → extend_cause rid size (sizes_of mirrors) ≡ None → AreWhole (with_grown rid size mirrors)
of_grown rid size mirrors whole passes = by (mirror_at rid mirrors) refl
  where
    by : (o : Option MirrorState) → mirror_at rid mirrors ≡ o → AreWhole (put_mirror rid (option_map (mirror_grown size) o) mirrors)
    by None is = whole
    by (Some it) is =
        let found : size_at rid (sizes_of mirrors) ≡ Some it.size =
        size_at-sizes_of rid mirrors ∙ ap (option_map (λ (m : MirrorState). m.size)) is
        in
        let fits = grows it.size size (total (sizes_of mirrors)) (ap (λ o. grow_cause o size (total (sizes_of mirrors))) (sym found) ∙ passes) in
        All-values-set_value (is_at (int_cmp rid)) IsWhole mirrors (mirror_grown size it) whole
        (length-widened (rounded size) it.bytes (omega (arith, whole-at rid mirrors it whole is, fits.0)))

of_filled : (rid : ℤ) (start : ℕ) (piece : List ℕ) (mirrors : MirrorsState) → AreWhole mirrors
    → fill_cause rid (start + length piece) (sizes_of mirrors) ≡ None → AreWhole (with_filled rid start piece mirrors)
of_filled rid start piece mirrors whole passes = by (mirror_at rid mirrors) refl
  where
    by : (o : Option MirrorState) → mirror_at rid mirrors ≡ o → AreWhole (put_mirror rid (option_map (mirror_filled start piece) o) mirrors)
    by None is = whole
    by (Some it) is =
        let has = whole-at rid mirrors it whole is in
        let fits : start + length piece ≤ length it.bytes = omega (arith, has, fits-filled rid (start + length piece) mirrors it passes is) in
        All-values-set_value (is_at (int_cmp rid)) IsWhole mirrors (mirror_filled start piece it) whole
        (length-replaced start piece it.bytes fits ∙ has)

pub returns : goal.returns
returns c = record {
  opened = λ rid size mirrors whole.
      All-values-insert_entry int_cmp rid (mirror_opened size) IsWhole mirrors whole (length-widened (rounded size) [] (omega arith));
  grown = of_grown;
  filled = of_filled;
}
