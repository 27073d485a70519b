use Rattle.receipt_laws.proofs.Jobs.{copy_is_back, back_is_awaited}
use Rattle.receipt_laws.proofs.laws.copy_is_awaited.Goals as goal

pub returns-clause-back : goal.returns-clause-back
returns-clause-back c = copy_is_back

pub returns-clause-awaited : goal.returns-clause-awaited
returns-clause-awaited c = back_is_awaited
