use Rattle.pair_runs.proofs.Calling.{fed_works, came_works, asks_works, up_is, down_is, lends_is, sends_is}
use Rattle.pair_runs.proofs.Handing.{gave_works, lent_is, handed_is, handed_works, none_out}
use Rattle.pair_runs.proofs.laws.calls_work.Goals as goal

pub returns-clause-fed : goal.returns-clause-fed
returns-clause-fed c = fed_works

pub returns-clause-came : goal.returns-clause-came
returns-clause-came c = came_works

pub returns-clause-asks : goal.returns-clause-asks
returns-clause-asks c = asks_works

pub returns-clause-up : goal.returns-clause-up
returns-clause-up c = up_is

pub returns-clause-down : goal.returns-clause-down
returns-clause-down c = down_is

pub returns-clause-lends : goal.returns-clause-lends
returns-clause-lends c = lends_is

pub returns-clause-sends : goal.returns-clause-sends
returns-clause-sends c = sends_is

pub returns-clause-gives : goal.returns-clause-gives
returns-clause-gives c = gave_works

pub returns-clause-lent : goal.returns-clause-lent
returns-clause-lent c = lent_is

pub returns-clause-handed : goal.returns-clause-handed
returns-clause-handed c = handed_is

pub returns-clause-last : goal.returns-clause-last
returns-clause-last c = handed_works

pub returns-clause-none_out : goal.returns-clause-none_out
returns-clause-none_out c = none_out
