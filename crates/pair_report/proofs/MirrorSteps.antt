-- The mirrors, once one of them is changed.
use Rattle.std.proofs.Common.{◌≡◌, ℤ, Option, Some, None, sym, ◌∙◌, ap, int_cmp}
use Rattle.std.specs.BTreeMap.{is_at}
use Rattle.std.specs.Map.{set_value}
use Rattle.std.specs.Option.{option_map}
use Rattle.mirror_pools.specs.Mirrors.{MirrorState, MirrorsState, mirror_at, put_mirror, on_mirror}

here : (key rid : ℤ) (mirrors : MirrorsState) (found : Option MirrorState) → key ≡ rid → mirror_at key mirrors ≡ found → mirror_at rid mirrors ≡ found
here key rid mirrors found named is = ap (λ (k : ℤ). mirror_at k mirrors) (sym named) ∙ is

-- one that is there takes the place of the old one
pub mirror_changed : (key rid : ℤ) (change : MirrorState → MirrorState) (mirrors : MirrorsState) (old new : MirrorState)
    → mirror_at key mirrors ≡ Some old → key ≡ rid → new ≡ change old → set_value (is_at (int_cmp key)) mirrors new ≡ on_mirror rid change mirrors
mirror_changed key rid change mirrors old new found named is =
    ap (λ (k : ℤ). set_value (is_at (int_cmp k)) mirrors new) named
    ∙ ap (set_value (is_at (int_cmp rid)) mirrors) is
    ∙ sym (ap (λ (o : Option MirrorState). put_mirror rid (option_map change o) mirrors) (here key rid mirrors (Some old) named found))

-- one that isn't there is not changed
pub mirror_absent : (key rid : ℤ) (change : MirrorState → MirrorState) (mirrors : MirrorsState)
    → mirror_at key mirrors ≡ None → key ≡ rid → mirrors ≡ on_mirror rid change mirrors
mirror_absent key rid change mirrors none named =
    sym (ap (λ (o : Option MirrorState). put_mirror rid (option_map change o) mirrors) (here key rid mirrors None named none))
