use Rattle.std.proofs.Common.{length, subst, sym, ◌≤◌}
use Rattle.side_model.specs.Books.{Lined}
use Rattle.trail_records.proofs.RowLemmas.{less_room}
use Rattle.trail_records.proofs.lines.LineList.add_written.Goals as goal

pub write_on_last-requires : goal.write_on_last-requires
write_on_last-requires c = less_room (length c.args.bytes.now) c.self.inside.room c.self.inside.rows.items (subst (λ (ls : Lined). length c.args.bytes.now ≤ ls.room) (sym c.self.view_is) c.requires) c.self.invariant
