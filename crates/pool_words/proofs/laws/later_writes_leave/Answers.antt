use Rattle.pool_words.proofs.Histories.{at_front}
use Rattle.pool_words.proofs.laws.later_writes_leave.Goals as goal

pub returns : goal.returns
returns c = at_front
