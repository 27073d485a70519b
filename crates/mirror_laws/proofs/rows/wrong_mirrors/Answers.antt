use Rattle.mirror_laws.proofs.RowProofs.{wrong_mirrors}
use Rattle.mirror_laws.proofs.rows.wrong_mirrors.Goals as goal

pub returns : goal.returns
returns c = wrong_mirrors
