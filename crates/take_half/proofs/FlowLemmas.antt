-- What came of pipes, once one more thing happens to one of them.
use Rattle.std.proofs.Common.{◌≡◌, ℤ, List, Option, Some, None, sym, ◌∙◌, ap, int_cmp}
use Rattle.std.specs.BTreeMap.{insert_entry, is_at}
use Rattle.std.specs.List.Sorted.{IsStrictlySortedBy}
use Rattle.std.specs.Map.{keys_of, lookup, set_value}
use Rattle.std.specs.Option.{unwrap_or}
use Rattle.wp_outside.specs.declared.pipe_items.PipeItem.{PipeItem}
use Rattle.mirror_pools.proofs.MirrorLemmas.{insert_entry-there}
use Rattle.half_model.specs.Meaning.{Flow, no_flow}
use Rattle.half_model.specs.PeerState.{rid_in, flow_with, flow_at, with_flow}

abbrev pub with_flow_at : ℤ → PipeItem → List (ℤ × Flow) → List (ℤ × Flow)
with_flow_at rid item flows = insert_entry int_cmp flows rid (flow_with item (flow_at rid flows))

-- a pipe that is known takes its new flow in place of the old one
pub flow_changed : (rid : ℤ) (item : PipeItem) (flows : List (ℤ × Flow)) (old new : Flow)
    → IsStrictlySortedBy int_cmp (keys_of flows) → lookup (is_at (int_cmp rid)) flows ≡ Some old
    → rid ≡ rid_in item → new ≡ flow_with item old
    → set_value (is_at (int_cmp rid)) flows new ≡ with_flow item flows
flow_changed rid item flows old new rising found named is =
    sym (insert_entry-there flows rid old new rising found)
    ∙ ap (insert_entry int_cmp flows rid) (is ∙ ap (λ (o : Option Flow). flow_with item (unwrap_or o no_flow)) (sym found))
    ∙ ap (λ (k : ℤ). with_flow_at k item flows) named

-- a pipe that isn't known begins
pub flow_begun : (rid : ℤ) (item : PipeItem) (flows : List (ℤ × Flow)) (new : Flow)
    → lookup (is_at (int_cmp rid)) flows ≡ None → rid ≡ rid_in item → new ≡ flow_with item no_flow
    → insert_entry int_cmp flows rid new ≡ with_flow item flows
flow_begun rid item flows new none named is =
    ap (insert_entry int_cmp flows rid) (is ∙ ap (λ (o : Option Flow). flow_with item (unwrap_or o no_flow)) (sym none))
    ∙ ap (λ (k : ℤ). with_flow_at k item flows) named
