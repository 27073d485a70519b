use Rattle.receipt_laws.proofs.Outs.{events_leave, events_same, lent_goes_out, handed_is_in}
use Rattle.receipt_laws.proofs.laws.events_leave_copies.Goals as goal

pub returns-clause-leave : goal.returns-clause-leave
returns-clause-leave c = events_leave

pub returns-clause-same : goal.returns-clause-same
returns-clause-same c = events_same

pub returns-clause-lent : goal.returns-clause-lent
returns-clause-lent c = lent_goes_out

pub returns-clause-handed : goal.returns-clause-handed
returns-clause-handed c = handed_is_in
