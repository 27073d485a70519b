use Rattle.side_model.proofs.RowProofs.{row_in_order}
use Rattle.side_model.proofs.laws.row_is_in_order.Goals as goal

pub returns : goal.returns
returns c = row_in_order
