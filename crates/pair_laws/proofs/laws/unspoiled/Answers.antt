use Rattle.pair_laws.proofs.Refusing.{unspoiled}
use Rattle.pair_laws.proofs.laws.unspoiled.Goals as goal

pub returns : goal.returns
returns c = unspoiled
