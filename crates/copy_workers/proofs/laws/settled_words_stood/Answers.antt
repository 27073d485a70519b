use Rattle.copy_workers.proofs.LawProofs.{settled_words_stood}
use Rattle.copy_workers.proofs.laws.settled_words_stood.Goals as goal

pub returns : goal.returns
returns c = settled_words_stood
