use Rattle.std.proofs.Common.{arith}
use Rattle.trail_records.proofs.RowLemmas.{room_after, room_put, ok_then}
use Rattle.trail_records.proofs.lines.reserve_on_last.Goals as goal

pub returns-in-Some-clause-room : goal.returns-in-Some-clause-room
returns-in-Some-clause-room c =
    ok_then c.reserve-made.result
    (room_put c.args.count c.pop.new.self.items c.push.new.self.items (record c.in-Some.line { written = c.reserve-made.new.self }) (rw c.unwrap.ensures at c.push.ensures.items))
    (ok_then c.reserve-made.result (λ h. omega (arith, h, c.reserve-made.ensures.len)) c.reserve-made.ensures.ok)

pub returns-in-Some-clause-none : goal.returns-in-Some-clause-none
returns-in-Some-clause-none c =
    room_after 0 0 c.pop.new.self.items c.args.rows.now.items c.push.new.self.items c.in-Some.line (record c.in-Some.line { written = c.reserve-made.new.self }) c.in-Some.ensures.items
    (rw c.unwrap.ensures at c.push.ensures.items) (λ h. omega (arith, h, c.reserve-made.ensures.len, c.reserve-made.ensures.capacity))
