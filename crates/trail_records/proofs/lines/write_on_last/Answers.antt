use Rattle.std.proofs.Common.{length, subst, List, arith}
use Rattle.trail_records.specs.declared.lines.LineRecord.{LineRecord}
use Rattle.trail_records.specs.Rows.{HasRoom}
use Rattle.trail_records.proofs.RowLemmas.{room_last, room_after, last_written}
use Rattle.trail_records.proofs.lines.write_on_last.Goals as goal

pub append_reserved-requires : goal.append_reserved-requires
append_reserved-requires c =
    room_last (length c.args.bytes.now) c.pop.new.self.items c.in-Some.line (subst (λ (rows : List LineRecord). HasRoom (length c.args.bytes.now) rows) c.in-Some.ensures.items c.requires)

pub returns-in-Some-clause-written : goal.returns-in-Some-clause-written
returns-in-Some-clause-written c =
    last_written c.args.bytes.now c.append_reserved.new.items c.pop.new.self.items c.args.rows.now.items c.push.new.self.items c.in-Some.line c.in-Some.ensures.items (rw c.unwrap.ensures at c.push.ensures.items)
    c.append_reserved.ensures.items

pub returns-in-Some-clause-room : goal.returns-in-Some-clause-room
returns-in-Some-clause-room c =
    room_after (length c.args.bytes.now) 0 c.pop.new.self.items c.args.rows.now.items c.push.new.self.items c.in-Some.line (record c.in-Some.line { written = c.append_reserved.new.items }) c.in-Some.ensures.items
    (rw c.unwrap.ensures at c.push.ensures.items) (λ h. omega (arith, c.append_reserved.ensures.len, c.append_reserved.ensures.room, h)) c.requires
