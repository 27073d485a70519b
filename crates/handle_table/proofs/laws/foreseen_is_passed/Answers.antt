use Rattle.handle_table.proofs.Rids.{foreseen_is_passed}
use Rattle.handle_table.proofs.laws.foreseen_is_passed.Goals as goal

pub returns : goal.returns
returns c = foreseen_is_passed
