use Rattle.handle_table.proofs.Rids.{one_handle_per_rid}
use Rattle.handle_table.proofs.laws.one_handle_per_rid.Goals as goal

pub returns : goal.returns
returns c = one_handle_per_rid
