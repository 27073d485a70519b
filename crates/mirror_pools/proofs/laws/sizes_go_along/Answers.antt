use Rattle.std.proofs.Common.{◌≡◌, ℕ, ℤ, List, Option, Some, None, refl, subst, int_cmp}
use Rattle.std.specs.Option.{IsSome, option_map}
use Rattle.std.specs.List.Sorted.{IsStrictlySortedBy}
use Rattle.std.specs.Map.{keys_of}
use Rattle.mirror_pools.specs.Mirrors.{MirrorState, MirrorsState, mirror_at, mirror_opened, mirror_grown, mirror_filled, put_mirror, sizes_of, with_grown, with_filled}
use Rattle.mirror_pools.specs.Sizes.{with_size, IsSound}
use Rattle.mirror_pools.proofs.MirrorLemmas.{keys_of-sizes_of, sizes_of-insert_entry, sizes_of-set_value, sizes_of-set_same}
use Rattle.mirror_pools.proofs.laws.sizes_go_along.Goals as goal

of_grown : (rid : ℤ) (size : ℕ) (mirrors : MirrorsState) → IsSound (sizes_of mirrors) → IsSome (mirror_at rid mirrors)
    → sizes_of (with_grown rid size mirrors) ≡ with_size rid size (sizes_of mirrors)
of_grown rid size mirrors sound some = by (mirror_at rid mirrors) refl some
  where
    rising : IsStrictlySortedBy int_cmp (keys_of mirrors)
    rising = let Rises : List ℤ → Type 0 = λ keys. IsStrictlySortedBy int_cmp keys in subst Rises (keys_of-sizes_of mirrors) sound.rising

    by : (o : Option MirrorState) → mirror_at rid mirrors ≡ o → IsSome o
        → sizes_of (put_mirror rid (option_map (mirror_grown size) o) mirrors) ≡ with_size rid size (sizes_of mirrors)
    by None is there = absurd (let never : ⊥ = cc in never)
    by (Some it) is there = sizes_of-set_value rid it (mirror_grown size it) mirrors rising is

of_filled : (rid : ℤ) (start : ℕ) (piece : List ℕ) (mirrors : MirrorsState)
    → sizes_of (with_filled rid start piece mirrors) ≡ sizes_of mirrors
of_filled rid start piece mirrors = by (mirror_at rid mirrors) refl
  where
    by : (o : Option MirrorState) → mirror_at rid mirrors ≡ o
        → sizes_of (put_mirror rid (option_map (mirror_filled start piece) o) mirrors) ≡ sizes_of mirrors
    by None is = refl
    by (Some it) is = sizes_of-set_same rid it (mirror_filled start piece it) mirrors is refl

pub returns : goal.returns
returns c = record {
  opened = λ rid size mirrors. sizes_of-insert_entry rid (mirror_opened size) mirrors;
  grown = of_grown;
  filled = of_filled;
}
