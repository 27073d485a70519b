use Rattle.receipt_laws.proofs.Calls.{lent_is_own, gives_own}
use Rattle.receipt_laws.proofs.Jobs.{back_is_own}
use Rattle.receipt_laws.proofs.laws.lent_is_own.Goals as goal

pub returns-clause-lent : goal.returns-clause-lent
returns-clause-lent g c = lent_is_own g.O.Owner.own

pub returns-clause-back : goal.returns-clause-back
returns-clause-back g c = back_is_own g.O.Owner.own

pub returns-clause-gives : goal.returns-clause-gives
returns-clause-gives g c = gives_own g.O.Owner.own
