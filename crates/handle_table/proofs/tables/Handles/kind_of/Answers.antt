use Rattle.std.proofs.Common.{◌∙◌, ap, w32}
use Rattle.std.specs.Ordering.{int_eq}
use Rattle.std.specs.Map.{lookup}
use Rattle.std.proofs.lemmas.Int.{to_z-of_z}
use Rattle.handle_table.specs.Table.{Table}
use Rattle.handle_table.proofs.tables.Handles.kind_of.Goals as goal

pub returns : goal.returns
returns c =
    c.copied.ensures ∙ c.get.ensures.value
    ∙ ap (λ rid. lookup (int_eq rid) c.self.inside.kept.entries) (to_z-of_z w32 c.args.rid c.ranges.rid)
    ∙ ap (λ (table : Table). lookup (int_eq c.args.rid) table.kept) c.self.view_is
