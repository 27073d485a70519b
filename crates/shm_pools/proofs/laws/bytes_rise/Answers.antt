use Rattle.shm_pools.proofs.FileWords.{bytes_rise}
use Rattle.shm_pools.proofs.laws.bytes_rise.Goals as goal

pub returns : goal.returns
returns c = bytes_rise
