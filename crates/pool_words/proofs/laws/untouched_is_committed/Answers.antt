use Rattle.pool_words.proofs.Stretches.{committed}
use Rattle.pool_words.proofs.laws.untouched_is_committed.Goals as goal

pub returns : goal.returns
returns c = committed
