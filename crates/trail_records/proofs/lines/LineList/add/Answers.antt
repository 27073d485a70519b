use Rattle.std.proofs.Common.{ap, ◌∙◌, arith}
use Rattle.side_model.specs.Books.{Lined}
use Rattle.trail_records.proofs.RowLemmas.{room_put}
use Rattle.trail_records.proofs.lines.LineList.add.Goals as goal

pub invariant_of-self-2 : goal.invariant_of-self-2
invariant_of-self-2 c =
    room_put c.self.inside.room c.self.inside.rows.items c.push.new.self.items (record { connection = c.args.connection; written = c.new.result; read = c.new-2.result }) c.in_ok-push.ensures.items
    (omega (arith, c.new.ensures.len, ap (λ (ls : Lined). ls.room) c.self.view_is ∙ c.requires))
