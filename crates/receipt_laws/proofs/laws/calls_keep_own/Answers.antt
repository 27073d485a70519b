use Rattle.receipt_laws.proofs.Calls.{own_at_first, calls_keep_own, steps_keep_own, sends_keep_own, lends_keep_own}
use Rattle.receipt_laws.proofs.laws.calls_keep_own.Goals as goal

pub returns-clause-first : goal.returns-clause-first
returns-clause-first g c = own_at_first g.O.Owner.own

pub returns-clause-calls : goal.returns-clause-calls
returns-clause-calls g c = calls_keep_own g.O.Owner.own

pub returns-clause-steps : goal.returns-clause-steps
returns-clause-steps g c = steps_keep_own g.O.Owner.own

pub returns-clause-sends : goal.returns-clause-sends
returns-clause-sends g c = sends_keep_own g.O.Owner.own

pub returns-clause-lends : goal.returns-clause-lends
returns-clause-lends g c = lends_keep_own g.O.Owner.own
