use Rattle.std.proofs.Common.{rules, ◌≡◌, ◌∙◌, All, List, ap, sym, subst}
use Rattle.std.specs.List.Sorted.{IsNonDecreasingBy}
use Rattle.std.proofs.lemmas.List.Sorted.{IsNonDecreasingBy-from_sort_by_key, All-permutation, list_any-IsPermutation}
use Rattle.std.proofs.lemmas.Result.{on_ok_weaker}
use Rattle.block_intervals.specs.Sets.{has}
use Rattle.surface_damage.specs.declared.area.Area.{Area}
use Rattle.surface_damage.specs.Areas.{IsPart, holds_pixel, some_holds}
use Rattle.surface_damage.proofs.ImageLemmas.{added_same}
use Rattle.surface_damage.proofs.sweep.add_areas.Goals as goal

pub sweep-requires-clause-parts : goal.sweep-requires-clause-parts
sweep-requires-clause-parts c =
    subst (λ (list : List Area). All (IsPart c.args.image) list) (sym c.deref.ensures.value)
    (All-permutation (IsPart c.args.image) c.args.areas.items c.sort_unstable_by_key.new.self.items c.sort_unstable_by_key.ensures.permutation c.requires.parts)

pub sweep-requires-clause-order : goal.sweep-requires-clause-order
sweep-requires-clause-order c =
    subst (λ (list : List Area). IsNonDecreasingBy (λ (area : Area). area.rows.first) list) (sym c.deref.ensures.value)
    (IsNonDecreasingBy-from_sort_by_key (λ (area : Area). area.rows.first) _ c.sort_unstable_by_key.ensures.sorted (λ a r q k. search rules))

pub returns : goal.returns
returns c =
    on_ok_weaker c.sweep.result
    (λ added block. added_same c.args.image (some_holds c.deref.result.now) (some_holds c.args.areas.items) block (has block c.args.blocks.now) (has block c.sweep.new.blocks)
    (λ bx by w h. ap (λ list. some_holds list bx by) c.deref.ensures.value
    ∙ sym (list_any-IsPermutation (λ (area : Area). holds_pixel area bx by) c.args.areas.items c.sort_unstable_by_key.new.self.items c.sort_unstable_by_key.ensures.permutation))
    (added block))
    c.sweep.ensures
