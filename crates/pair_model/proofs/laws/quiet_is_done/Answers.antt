use Rattle.pair_model.proofs.Done.{quiet_is_done}
use Rattle.pair_model.proofs.laws.quiet_is_done.Goals as goal

pub returns : goal.returns
returns c = quiet_is_done
