use Rattle.receipt_laws.proofs.Events.{events_keep, parts_keep}
use Rattle.receipt_laws.proofs.Needs.{needs_own}
use Rattle.receipt_laws.proofs.laws.events_keep_own.Goals as goal

pub returns-clause-one : goal.returns-clause-one
returns-clause-one g c = events_keep g.O.Owner.own

pub returns-clause-row : goal.returns-clause-row
returns-clause-row g c = parts_keep g.O.Owner.own

pub returns-clause-needs : goal.returns-clause-needs
returns-clause-needs g c = needs_own g.O.Owner.own
