use Rattle.pair_runs.proofs.Falling.{round_falls}
use Rattle.pair_runs.proofs.Quieting.{quiet_is_done}
use Rattle.pair_runs.proofs.laws.rounds_end.Goals as goal

pub returns-clause-falls : goal.returns-clause-falls
returns-clause-falls c = round_falls

pub returns-clause-done : goal.returns-clause-done
returns-clause-done c = quiet_is_done
