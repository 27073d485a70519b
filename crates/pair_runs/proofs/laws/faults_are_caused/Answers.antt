use Rattle.pair_runs.proofs.Blaming.{faults_are_caused}
use Rattle.pair_runs.proofs.laws.faults_are_caused.Goals as goal

pub returns : goal.returns
returns c = faults_are_caused
