use Rattle.std.proofs.Common.{ℤ, List, ◌∙◌, ap, w32}
use Rattle.std.proofs.lemmas.Int.{to_z-of_z}
use Rattle.std.specs.Ordering.{int_cmp}
use Rattle.std.specs.BTreeMap.{insert_entry}
use Rattle.wp_outside.specs.declared.kinds.HandleKind.{HandleKind}
use Rattle.handle_table.specs.Table.{Table, after_took}
use Rattle.handle_table.proofs.tables.Handles.took.Goals as goal

pub returns-clause-ok : goal.returns-clause-ok
returns-clause-ok c =
    let inside = c.self.inside in
    ap (λ (kept : List (ℤ × HandleKind)). let table : Table = record { side = inside.side; passed = inside.passed.keys; kept = kept } in table)
    (c.in_ok-insert.ensures.entries
    ∙ ap (λ (key : ℤ). insert_entry int_cmp inside.kept.entries key c.args.kind) (to_z-of_z w32 c.args.rid c.ranges.rid))
    ∙ ap (λ (table : Table). after_took table c.args.rid c.args.kind) c.self.view_is
