use Rattle.pair_laws.proofs.MetProofs.{receives_all}
use Rattle.pair_laws.proofs.rows.one_received.Goals as goal

pub returns : goal.returns
returns c = receives_all
