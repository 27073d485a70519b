use Rattle.receipt_laws.proofs.OutCalls.{none_out_at_first, calls_leave, calls_same, steps_leave, lends_leave, sends_leave, calls_lend, calls_hand}
use Rattle.receipt_laws.proofs.laws.calls_leave_copies.Goals as goal

pub returns-clause-first : goal.returns-clause-first
returns-clause-first c = none_out_at_first

pub returns-clause-leave : goal.returns-clause-leave
returns-clause-leave c = calls_leave

pub returns-clause-same : goal.returns-clause-same
returns-clause-same c = calls_same

pub returns-clause-steps : goal.returns-clause-steps
returns-clause-steps c = steps_leave

pub returns-clause-lends : goal.returns-clause-lends
returns-clause-lends c = lends_leave

pub returns-clause-sends : goal.returns-clause-sends
returns-clause-sends c = sends_leave

pub returns-clause-lend : goal.returns-clause-lend
returns-clause-lend c = calls_lend

pub returns-clause-hand : goal.returns-clause-hand
returns-clause-hand c = calls_hand
