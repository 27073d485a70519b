use Rattle.std.proofs.Common.{◌≡◌, ◌++◌, drop}
use Rattle.wl_objects.specs.Entries.{first_objects}
use Rattle.pair_report.specs.Passing.{text_lines}
use Rattle.pair_laws.specs.Passing.{passing}
use Rattle.pair_report.proofs.passing.put_text_lines.Given as goal

-- the lines of the messages that are left complete the text
abbrev pub invariant-loop-way : goal.invariant-loop-way
invariant-loop-way l =
    l.out ++ text_lines l.side (passing l.side (drop l.way-index l.order) l.taken_left l.received_left) l.objects.tracked l.rids_left
    ≡ l.initial.out ++ text_lines l.side (passing l.side l.order l.taken l.received) first_objects l.rids
