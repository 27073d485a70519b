use Rattle.transfer_frames.proofs.FrontLaws.{none_begins, one_row}
use Rattle.transfer_frames.proofs.laws.row_is_unique.Goals as goal

pub returns-clause-begins : goal.returns-clause-begins
returns-clause-begins c = none_begins

pub returns-clause-row : goal.returns-clause-row
returns-clause-row c = one_row
