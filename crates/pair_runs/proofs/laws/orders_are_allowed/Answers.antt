use Rattle.pair_runs.proofs.Allowing.{runs_are_allowed}
use Rattle.pair_runs.proofs.laws.orders_are_allowed.Goals as goal

pub returns : goal.returns
returns c = runs_are_allowed
