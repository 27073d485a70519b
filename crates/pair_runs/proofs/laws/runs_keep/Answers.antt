use Rattle.pair_runs.proofs.Keeping.{runs_keep, settles_quietly, drains_quietly}
use Rattle.pair_runs.proofs.Stopping.{drains_without_stop, stops_at_stop, empty_drains}
use Rattle.pair_runs.proofs.laws.runs_keep.Goals as goal

pub returns-clause-keep : goal.returns-clause-keep
returns-clause-keep c = runs_keep

pub returns-clause-settles : goal.returns-clause-settles
returns-clause-settles c = settles_quietly

pub returns-clause-drains : goal.returns-clause-drains
returns-clause-drains c = drains_quietly

pub returns-clause-without_stop : goal.returns-clause-without_stop
returns-clause-without_stop c = drains_without_stop

pub returns-clause-at_stop : goal.returns-clause-at_stop
returns-clause-at_stop c = stops_at_stop

pub returns-clause-empty : goal.returns-clause-empty
returns-clause-empty c = empty_drains
