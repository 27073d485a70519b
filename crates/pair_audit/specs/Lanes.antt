-- What was read of one lane of a connection beside what was written there; the link is this
-- project's own.
use Rattle.std.specs.Prelude.{◌≡◌, ◌≢◌, ℕ, List, Some, take, slice_get, Result, Ok, Err}
use Rattle.plain_lists.specs.Fronts.{IsFront}
use Rattle.wp_outside.specs.declared.kinds.Direction.{Direction}
use Rattle.pair_laws.specs.declared.differs.Differs.{Differs}

-- On this lane the bytes are the same up to the place, where a byte was read, and another one was
-- written, or none.
pub record DiffersOn (connection : ℕ) (direction : Direction) (written read : List ℕ) (it : Differs)
    : Type 0 where
  pub connection_is : it.connection ≡ connection
  pub direction_is : it.direction ≡ direction
  pub same : take it.place read ≡ take it.place written
  pub reads : slice_get read it.place ≡ Some it.read
  pub wrote : slice_get written it.place ≡ it.wrote
  pub differs : it.wrote ≢ Some it.read

-- the bytes read begin those written, or that is where they don't
abbrev pub AuditsLane : ℕ → Direction → List ℕ → List ℕ → Result Unit Differs → Type 0
AuditsLane connection direction written read (Ok done) = IsFront read written
AuditsLane connection direction written read (Err it) =
    DiffersOn connection direction written read it
