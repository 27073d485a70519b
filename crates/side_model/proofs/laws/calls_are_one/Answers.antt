use Rattle.side_model.proofs.RowProofs.{one_row, one_call}
use Rattle.side_model.proofs.laws.calls_are_one.Goals as goal

pub returns-clause-row : goal.returns-clause-row
returns-clause-row c = one_row

pub returns-clause-call : goal.returns-clause-call
returns-clause-call c = one_call
