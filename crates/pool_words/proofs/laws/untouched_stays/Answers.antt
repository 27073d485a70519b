use Rattle.pool_words.proofs.Stretches.{untouched}
use Rattle.pool_words.proofs.laws.untouched_stays.Goals as goal

pub returns : goal.returns
returns c = untouched
