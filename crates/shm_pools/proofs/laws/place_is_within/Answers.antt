use Rattle.shm_pools.proofs.WordPlaces.{place_is_within}
use Rattle.shm_pools.proofs.laws.place_is_within.Goals as goal

pub returns : goal.returns
returns c = place_is_within
