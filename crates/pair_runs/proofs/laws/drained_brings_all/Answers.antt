use Rattle.pair_runs.proofs.Completing.{drained_brings_all}
use Rattle.pair_runs.proofs.laws.drained_brings_all.Goals as goal

pub returns : goal.returns
returns c = drained_brings_all
