use Rattle.wl_objects.proofs.Rows.{passed_by_the_table}
use Rattle.wl_objects.proofs.laws.passed_by_the_table.Goals as goal

pub returns : goal.returns
returns c = passed_by_the_table
