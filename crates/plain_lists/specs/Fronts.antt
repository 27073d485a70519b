-- What it means that a list is a front of another; this project's own word, for bytes of a stream
-- that were read so far and the like.
use Rattle.std.specs.Prelude.{◌≡◌, List, ◌++◌}

-- the whole is the front and then a rest
pub record IsFront {X : Type 0} (front whole : List X) : Type 0 where
  pub rest : List X
  pub is : front ++ rest ≡ whole
