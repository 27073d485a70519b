-- What came of pipes, once more comes of one of them.
use Rattle.std.proofs.Common.{◌≡◌, ℤ, Option, Some, sym, ◌∙◌, ap, int_cmp}
use Rattle.std.specs.BTreeMap.{insert_entry, is_at}
use Rattle.std.specs.List.Sorted.{IsStrictlySortedBy}
use Rattle.std.specs.Map.{keys_of, lookup, set_value}
use Rattle.std.specs.Option.{unwrap_or}
use Rattle.mirror_pools.proofs.MirrorLemmas.{insert_entry-there}
use Rattle.half_model.specs.Meaning.{Flow, no_flow}
use Rattle.pair_report.specs.Meant.{Flows, on_flow, begun_if, with_pipe}

-- a pipe that is known takes its new flow in place of the old one
pub flow_changed : (key rid : ℤ) (change : Flow → Flow) (flows : Flows) (old new : Flow)
    → IsStrictlySortedBy int_cmp (keys_of flows) → lookup (is_at (int_cmp key)) flows ≡ Some old
    → key ≡ rid → new ≡ change old → set_value (is_at (int_cmp key)) flows new ≡ on_flow rid change flows
flow_changed key rid change flows old new rising found named is =
    sym (insert_entry-there flows key old new rising found)
    ∙ ap (insert_entry int_cmp flows key) (is ∙ ap (λ (o : Option Flow). change (unwrap_or o no_flow)) (sym found))
    ∙ ap (λ (k : ℤ). on_flow k change flows) named

-- one that is there needs not begin
pub flow_there : (key rid : ℤ) (flows : Flows) (old : Flow) → lookup (is_at (int_cmp key)) flows ≡ Some old → key ≡ rid → flows ≡ with_pipe rid flows
flow_there key rid flows old found named =
    sym (ap (λ (o : Option Flow). begun_if o rid flows) (ap (λ (k : ℤ). lookup (is_at (int_cmp k)) flows) (sym named) ∙ found))
