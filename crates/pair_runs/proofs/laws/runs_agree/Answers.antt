use Rattle.pair_runs.proofs.Tying.{moves_tie}
use Rattle.pair_runs.proofs.Agreeing.{runs_agree}
use Rattle.pair_runs.proofs.laws.runs_agree.Goals as goal

pub returns-clause-moves : goal.returns-clause-moves
returns-clause-moves c = moves_tie

pub returns-clause-runs : goal.returns-clause-runs
returns-clause-runs c = runs_agree
