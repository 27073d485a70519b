use Rattle.receipt_laws.proofs.Calls.{more_is_own}
use Rattle.receipt_laws.proofs.laws.more_is_own.Goals as goal

pub returns : goal.returns
returns g c = more_is_own g.O.Owner.own g.P.Owner.own
