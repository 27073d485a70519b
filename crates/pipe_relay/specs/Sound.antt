-- What holds of the pipes of every side, whatever was passed and closed, and what a pipe is that
-- was just opened; this project's own.
use Rattle.std.specs.Prelude.{◌≡◌, true, false, ℤ}
use Rattle.pipe_relay.specs.Pipes.{Rids, PipesState, has_rid}

abbrev pub Within : Rids → Rids → Type 0
Within inner outer = (rid : ℤ) → has_rid rid inner ≡ true → has_rid rid outer ≡ true

-- only ends of open pipes are closed
pub record IsSound (pipes : PipesState) : Type 0 where
  pub ended : Within pipes.ended pipes.own
  pub left : Within pipes.left pipes.own
  pub closed : Within pipes.closed pipes.other
  pub shut : Within pipes.shut pipes.other

-- a pipe is among those opened, and neither its writer nor its reader has closed it
pub record IsNew (rid : ℤ) (opened writers readers : Rids) : Type 0 where
  pub is_open : has_rid rid opened ≡ true
  pub writer : has_rid rid writers ≡ false
  pub reader : has_rid rid readers ≡ false
