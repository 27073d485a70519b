use Rattle.std.proofs.Common.{w32, refl}
use Rattle.std.proofs.lemmas.Int.{to_z-of_z}
use Rattle.handle_table.proofs.tables.Handles.rid_of.Goals as goal

pub returns : goal.returns
returns c =
    let same = to_z-of_z w32 c.args.number c.ranges.number in
    let pipe = rw same at c.rid_of_handle-pipe.ensures in
    let file = rw same at c.rid_of_handle.ensures in
    rw (c.or.ensures, pipe, file) refl
