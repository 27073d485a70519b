-- What the code of a peer's files keeps beside them; this project's own.
use Rattle.std.specs.Prelude.{◌≡◌, ℕ, length}
use Rattle.shm_pools.specs.Files.{FileState, pen_sizes}
use Rattle.script_peers.specs.Owning.{words_of, IsStood}

-- a file has so many words and segments, and what was settled has stood
pub record IsCounted (words count : ℕ) (f : FileState) : Type 0 where
  pub sized : words ≡ words_of f
  pub counted : count ≡ length f.segments
  pub stood : IsStood f

-- what writing to a file leaves as it was
pub record IsRewritten (old new : FileState) : Type 0 where
  pub number : new.number ≡ old.number
  pub sizes : pen_sizes new.segments ≡ pen_sizes old.segments
  pub stood : IsStood new
