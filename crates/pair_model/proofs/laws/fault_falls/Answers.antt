use Rattle.pair_model.proofs.Judging.{fault_falls}
use Rattle.pair_model.proofs.laws.fault_falls.Goals as goal

pub returns : goal.returns
returns c = fault_falls
