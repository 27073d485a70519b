use Rattle.mirror_laws.proofs.RowProofs.{commit_fills}
use Rattle.mirror_laws.proofs.rows.commit_fills.Goals as goal

pub returns : goal.returns
returns c = commit_fills
