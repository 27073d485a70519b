-- What a reader of the link's frames holds of its stream; the frames and their spelling are this
-- project's own.
use Rattle.std.specs.Prelude.{ℕ, List}

-- the bytes that were fed and not given yet, and how many were given before them
pub record Stream : Type 0 where
  pub front : List ℕ
  pub place : ℕ
