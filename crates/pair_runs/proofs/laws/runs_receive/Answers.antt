use Rattle.pair_runs.proofs.Receiving.{runs_take_first, runs_receive}
use Rattle.pair_runs.proofs.laws.runs_receive.Goals as goal

pub returns-clause-take : goal.returns-clause-take
returns-clause-take c = runs_take_first

pub returns-clause-receive : goal.returns-clause-receive
returns-clause-receive c = runs_receive
