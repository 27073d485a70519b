use Rattle.std.proofs.Common.{sym, ap, ◌∙◌}
use Rattle.std.specs.List.{position_from}
use Rattle.std.specs.Str.{bytes_eq}
use Rattle.wl_tables.specs.Rows.{row_of}
use Rattle.wl_tables.proofs.Naming.{position_from_map}
use Rattle.wl_tables.proofs.lookups.opcode_of.Goals as goal

-- the search among the kept rows is the search among what they say
pub returns : goal.returns
returns c =
    c.opcode_among.ensures
    ∙ sym (position_from_map row_of (λ it. bytes_eq it.name c.args.name.now) 0 c.messages.result.now)
    ∙ ap (position_from (λ it. bytes_eq it.name c.args.name.now) 0) c.messages.ensures.rows
