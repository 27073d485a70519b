use Rattle.handle_table.proofs.Rids.{rid_outlasts_pass, rid_outlasts_took}
use Rattle.handle_table.proofs.laws.rid_outlasts.Goals as goal

pub returns : goal.returns
returns c = record { pass = rid_outlasts_pass; took = rid_outlasts_took }
