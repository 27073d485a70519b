use Rattle.copy_laws.proofs.Leaving.{none_given_at_first, calls_leave_given, steps_leave_given, lends_leave_given, sends_leave_given}
use Rattle.copy_laws.proofs.laws.calls_leave_given.Goals as goal

pub returns-clause-first : goal.returns-clause-first
returns-clause-first c = none_given_at_first

pub returns-clause-calls : goal.returns-clause-calls
returns-clause-calls c = calls_leave_given

pub returns-clause-steps : goal.returns-clause-steps
returns-clause-steps c = steps_leave_given

pub returns-clause-lends : goal.returns-clause-lends
returns-clause-lends c = lends_leave_given

pub returns-clause-sends : goal.returns-clause-sends
returns-clause-sends c = sends_leave_given
