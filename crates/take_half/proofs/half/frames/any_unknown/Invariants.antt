use Rattle.std.proofs.Common.{◌≡◌, drop}
use Rattle.std.specs.List.{list_any}
use Rattle.std.specs.Option.{is_none}
use Rattle.handle_table.specs.Table.{kind_of_rid}
use Rattle.take_half.proofs.half.frames.any_unknown.Given as goal

-- each rid that was passed was opened
abbrev pub invariant-loop-rid : goal.invariant-loop-rid
invariant-loop-rid l =
    list_any (λ rid. is_none (kind_of_rid l.handles rid)) l.rids
    ≡ list_any (λ rid. is_none (kind_of_rid l.handles rid)) (drop l.rid-index l.rids)
