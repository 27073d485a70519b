use Rattle.std.proofs.Common.{◌≡◌, drop}
use Rattle.std.specs.List.{position_from}
use Rattle.std.specs.Str.{bytes_eq}
use Rattle.wl_tables.specs.Rows.{row_of}
use Rattle.wl_tables.proofs.lookups.opcode_among.Given as goal

-- the opcode counts the rows that were passed, of which none has the name
abbrev pub invariant-loop-row : goal.invariant-loop-row
invariant-loop-row l =
    (l.opcode ≡ l.row-index)
    × (position_from (λ it. bytes_eq (row_of it).name l.name) 0 l.rows
    ≡ position_from (λ it. bytes_eq (row_of it).name l.name) l.row-index (drop l.row-index l.rows))
