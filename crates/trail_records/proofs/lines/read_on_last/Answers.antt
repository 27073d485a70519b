use Rattle.trail_records.proofs.RowLemmas.{room_after, last_read, ok_then}
use Rattle.trail_records.proofs.lines.read_on_last.Goals as goal

pub returns-in-Some-clause-ok : goal.returns-in-Some-clause-ok
returns-in-Some-clause-ok c =
    ok_then c.append-read.result
    (last_read c.args.piece.now c.append-read.new.self c.pop.new.self.items c.args.rows.now.items c.push.new.self.items c.in-Some.line c.in-Some.ensures.items (rw c.unwrap.ensures at c.push.ensures.items))
    c.append-read.ensures.ok

pub returns-in-Some-clause-room : goal.returns-in-Some-clause-room
returns-in-Some-clause-room c =
    λ room. room_after room room c.pop.new.self.items c.args.rows.now.items c.push.new.self.items c.in-Some.line (record c.in-Some.line { read = c.append-read.new.self }) c.in-Some.ensures.items
    (rw c.unwrap.ensures at c.push.ensures.items) (λ h. h)
