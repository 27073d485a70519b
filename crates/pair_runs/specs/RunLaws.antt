-- What holds of each run, whatever its script says; the script language is this project's own.
use Rattle.std.specs.Prelude.{◌≡◌, ◌≢◌, ℕ, ◌<◌, List, [], Option, Some, None}
use Rattle.script_lang.specs.Puts.{before_stop}
use Rattle.script_lang.specs.declared.steps.Step.{Step}
use Rattle.pair_runs.specs.Kept.{Kept}
use Rattle.pair_runs.specs.Moves.{MovesAll}
use Rattle.pair_runs.specs.Runs.{Played, Settles, End, Drained, Stopped, Fails, Runs, round}
use Rattle.pair_runs.specs.States.{State, Fault, first_state}

-- the fault that a run ended with
abbrev pub fault_by : End → Option Fault
fault_by Drained = None
fault_by Stopped = None
fault_by (Fails fault) = Some fault

-- At the beginning the records of both sides are kept, and so they are at the end; that they are in
-- between is said of each move.
pub record RunsKeep : Type 0 where
  pub first : Kept None first_state
  pub last : (steps : List Step) (played : List Played) (last : State) (end : End)
      → Runs steps played last end → Kept (fault_by end) last

-- Rounds that end without a fault end where one more changes nothing.
abbrev pub SettlesQuietly : Type 0
SettlesQuietly = (most : ℕ) (s t : State) → Settles most s t None
    → MovesAll (round most) t t None

-- So does a run that ends where nothing moved any more.
abbrev pub DrainsQuietly : Type 0
DrainsQuietly = (steps : List Step) (played : List Played) (last : State)
    → Runs steps played last Drained
    → (most : ℕ) × (0 < most) × MovesAll (round most) last last None

-- A run drains only where its script has no `stop`, and is stopped only where it has one.
abbrev pub DrainsWithoutStop : Type 0
DrainsWithoutStop = (steps : List Step) (played : List Played) (last : State)
    → Runs steps played last Drained → before_stop steps ≡ steps

abbrev pub StopsAtStop : Type 0
StopsAtStop = (steps : List Step) (played : List Played) (last : State)
    → Runs steps played last Stopped → before_stop steps ≢ steps

-- The empty script has a run, in which nothing moves.
abbrev pub EmptyDrains : Type 0
EmptyDrains = Runs [] [] first_state Drained
