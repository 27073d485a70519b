use Rattle.shm_pools.proofs.FileWords.{write_sets}
use Rattle.shm_pools.proofs.laws.write_sets_word.Goals as goal

pub returns : goal.returns
returns c = write_sets
