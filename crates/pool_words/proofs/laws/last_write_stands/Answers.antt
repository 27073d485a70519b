use Rattle.pool_words.proofs.Stretches.{last_write}
use Rattle.pool_words.proofs.laws.last_write_stands.Goals as goal

pub returns : goal.returns
returns c = last_write
