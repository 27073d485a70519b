use Rattle.pair_laws.proofs.MetProofs.{refuses_bind}
use Rattle.pair_laws.proofs.rows.refused_bind.Goals as goal

pub returns : goal.returns
returns c = refuses_bind
