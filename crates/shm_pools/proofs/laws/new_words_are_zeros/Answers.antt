use Rattle.shm_pools.proofs.FileWords.{new_is_zeros, grow_adds_zeros}
use Rattle.shm_pools.proofs.laws.new_words_are_zeros.Goals as goal

pub returns : goal.returns
returns c = record { new = new_is_zeros; grown = grow_adds_zeros }
