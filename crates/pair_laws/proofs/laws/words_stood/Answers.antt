use Rattle.pair_laws.proofs.Mirrors.{words_stood_there}
use Rattle.pair_laws.proofs.laws.words_stood.Goals as goal

pub returns : goal.returns
returns c = words_stood_there
