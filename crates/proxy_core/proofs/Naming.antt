-- An item that names no pipe of the peer's has none by its rid.
use Rattle.std.proofs.Common.{◌≡◌, ℕ, ℤ, Bool, false, List, Option, Some, None, sym, ap, ◌∙◌}
use Rattle.std.specs.Prelude.{option_map, if◌then◌else◌}
use Rattle.handle_table.specs.Table.{Table, rid_of_number}
use Rattle.wp_outside.specs.declared.pipe_items.PipeItem.{PipeItem}
use Rattle.wp_outside.specs.declared.pipe_items.PipeItem.TheVariants as items
use Rattle.half_model.specs.PipeTurn.{item_by_rid}
use Rattle.pipe_relay.specs.Pipes.{Rids, has_rid}

pub bytes_unnamed : (handles : Table) (held : Rids) (item : PipeItem) (rid : ℤ) (bytes : List ℕ) → item ≡ items.Bytes rid bytes → has_rid rid held ≡ false → None ≡ item_by_rid handles held item
bytes_unnamed handles held item rid bytes e h =
    sym (ap (item_by_rid handles held) e ∙ ap (λ (b : Bool). if b then Some (items.Bytes rid bytes) else None) h)

pub end_unnamed : (handles : Table) (held : Rids) (item : PipeItem) (rid : ℤ) → item ≡ items.End rid → has_rid rid held ≡ false → None ≡ item_by_rid handles held item
end_unnamed handles held item rid e h =
    sym (ap (item_by_rid handles held) e ∙ ap (λ (b : Bool). if b then Some (items.End rid) else None) h)

pub shut_unnamed : (handles : Table) (held : Rids) (item : PipeItem) (number : ℤ) → item ≡ items.Shut number → rid_of_number handles number ≡ None → None ≡ item_by_rid handles held item
shut_unnamed handles held item number e h =
    sym (ap (item_by_rid handles held) e ∙ ap (λ (found : Option ℤ). option_map (λ (rid : ℤ). items.Shut rid) found) h)
