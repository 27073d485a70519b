use Rattle.std.proofs.Common.{◌≡◌, ◌++◌, drop}
use Rattle.std.specs.List.{flat_map}
use Rattle.pair_report.specs.Lines.{hex_line}
use Rattle.pair_report.proofs.hex_lines.put_hex_lines.Given as goal

-- the lines of the messages that are left complete the text
abbrev pub invariant-loop-message : goal.invariant-loop-message
invariant-loop-message l =
    l.out ++ flat_map (hex_line l.side) (drop l.message-index l.messages) ≡ l.initial.out ++ flat_map (hex_line l.side) l.messages
