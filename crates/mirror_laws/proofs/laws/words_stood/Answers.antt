use Rattle.mirror_laws.proofs.Stood.{words_stood}
use Rattle.mirror_laws.proofs.laws.words_stood.Goals as goal

pub returns : goal.returns
returns c = words_stood
