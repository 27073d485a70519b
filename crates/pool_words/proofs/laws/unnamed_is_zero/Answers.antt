use Rattle.pool_words.proofs.Stretches.{unnamed}
use Rattle.pool_words.proofs.laws.unnamed_is_zero.Goals as goal

pub returns : goal.returns
returns c = unnamed
