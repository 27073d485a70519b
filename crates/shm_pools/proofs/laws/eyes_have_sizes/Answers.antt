use Rattle.shm_pools.proofs.FileWords.{eyes_have_sizes, file_has_words}
use Rattle.shm_pools.proofs.laws.eyes_have_sizes.Goals as goal

pub returns : goal.returns
returns c = record { eyes = eyes_have_sizes; words = file_has_words }
