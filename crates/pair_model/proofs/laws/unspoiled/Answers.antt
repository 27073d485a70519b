use Rattle.pair_model.proofs.Unspoiling.{unspoiled}
use Rattle.pair_model.proofs.laws.unspoiled.Goals as goal

pub returns : goal.returns
returns c = unspoiled
