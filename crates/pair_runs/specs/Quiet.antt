-- What holds of the line between both sides while no byte of it is replaced, and that nothing is
-- left where a round changes nothing; this project's own.
use Rattle.std.specs.Prelude.{◌≡◌, ℕ, ◌<◌, ◌++◌, List, [], Option, None}
use Rattle.std.specs.Option.{MatchOption}
use Rattle.pair_model.specs.Lines.{Line, Agrees, read_on, written_on}
use Rattle.pair_laws.specs.Everything.{Drained}
use Rattle.pair_laws.specs.Pairs.{IsPair}
use Rattle.pair_runs.specs.Kept.{Kept, one_side}
use Rattle.pair_runs.specs.Moves.{MovesAll}
use Rattle.pair_runs.specs.Runs.{round}
use Rattle.pair_runs.specs.Sides.{rows_of, last_number}
use Rattle.pair_runs.specs.States.{State, Lanes}

-- what was written on a connection was read or waits
pub record Carries (connection : ℕ) (near far : List Line) (lanes : Lanes) : Type 0 where
  pub up : read_on connection far ++ lanes.up ≡ written_on connection near
  pub down : read_on connection near ++ lanes.down ≡ written_on connection far

-- The lines of both sides agree, and the last one is the line that is up.
pub record TiedLines (near far : List Line) (line : Option Lanes) : Type 0 where
  pub agrees : Agrees near far
  pub number : last_number near ≡ last_number far
  pub carries : MatchOption line (Unit {0}) (Carries (last_number near) near far)

abbrev pub Tied : State → Type 0
Tied s = TiedLines (rows_of s.near) (rows_of s.far) s.line

-- nothing is left to move
pub record IsDone (s : State) : Type 0 where
  pub pair : IsPair (one_side s.near None) (one_side s.far None)
  pub drained : Drained (one_side s.near None) (one_side s.far None) pair
  pub near_copies : s.near.copies ≡ []
  pub far_copies : s.far.copies ≡ []

-- Where a round changes nothing, and no byte of the line was replaced, both sides know that all
-- their frames were accepted, wait for no copy, and have given all.
abbrev pub QuietIsDone : Type 0
QuietIsDone = (most : ℕ) (s : State) → 0 < most → Kept None s → Tied s
    → MovesAll (round most) s s None → IsDone s
