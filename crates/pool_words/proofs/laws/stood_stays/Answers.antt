use Rattle.pool_words.proofs.Histories.{has_stood_more}
use Rattle.pool_words.proofs.laws.stood_stays.Goals as goal

pub returns : goal.returns
returns c = has_stood_more
