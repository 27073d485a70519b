use Rattle.mirror_laws.proofs.RowProofs.{changing_word}
use Rattle.mirror_laws.proofs.rows.changing_word.Goals as goal

pub returns : goal.returns
returns c = changing_word
