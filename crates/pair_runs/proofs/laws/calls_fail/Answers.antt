use Rattle.pair_runs.proofs.Failing.{fed_fails, came_fails, asks_fails, handed_fails}
use Rattle.pair_runs.proofs.Refusing.{up_fails, up_limits, lends_fails, kept_by_fault}
use Rattle.pair_runs.proofs.laws.calls_fail.Goals as goal

pub returns-clause-fed : goal.returns-clause-fed
returns-clause-fed c = fed_fails

pub returns-clause-came : goal.returns-clause-came
returns-clause-came c = came_fails

pub returns-clause-asks : goal.returns-clause-asks
returns-clause-asks c = asks_fails

pub returns-clause-handed : goal.returns-clause-handed
returns-clause-handed c = handed_fails

pub returns-clause-up : goal.returns-clause-up
returns-clause-up c = up_fails

pub returns-clause-lends : goal.returns-clause-lends
returns-clause-lends c = lends_fails

pub returns-clause-kept : goal.returns-clause-kept
returns-clause-kept c = kept_by_fault

pub returns-clause-limits : goal.returns-clause-limits
returns-clause-limits c = up_limits
