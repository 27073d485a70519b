use Rattle.handle_table.proofs.Rids.{rids_are_dense}
use Rattle.handle_table.proofs.laws.rids_are_dense.Goals as goal

pub returns : goal.returns
returns c = rids_are_dense
