-- That both sides of a run agree on the bytes of the line while none of them is replaced, so that
-- what one peer has received are the first messages of the other; messages are Wayland's, the line
-- is this project's own.
use Rattle.std.specs.Prelude.{List, Option, Some, None}
use Rattle.std.specs.List.{AllByRecursion}
use Rattle.script_lang.specs.declared.steps.Step.{Step}
use Rattle.script_lang.specs.declared.steps.StepKind.{StepKind}
use Rattle.script_lang.specs.declared.steps.StepKind.TheVariants as line
use Rattle.pair_model.specs.Lines.{Agrees}
use Rattle.pair_runs.specs.Kept.{Kept}
use Rattle.pair_runs.specs.Moves.{Move, Spoil, Moves}
use Rattle.pair_runs.specs.Quiet.{Tied, IsDone}
use Rattle.pair_runs.specs.Runs.{Played, End, Drained, Runs}
use Rattle.pair_runs.specs.Sides.{rows_of}
use Rattle.pair_runs.specs.States.{State, Fault, first_state}

-- the lines agree; where no fault was met, they are tied to what waits
abbrev pub TiedBy : Option Fault → State → Type 0
TiedBy None s = Tied s
TiedBy (Some fault) s = Agrees (rows_of s.near) (rows_of s.far)

-- a move that replaces no byte
abbrev pub Spares : Move → Type 0
Spares (Spoil dir offset byte) = ⊥
Spares move = Unit {0}

-- keeps that
pub record MovesTie : Type 0 where
  pub first : Tied first_state
  pub moves : (move : Move) (s t : State) (stop : Option Fault) → Spares move → Kept None s
      → Tied s → Moves move s t stop → TiedBy stop t

-- a line that replaces none
abbrev pub IsSparing : StepKind → Type 0
IsSparing (line.Spoil dir offset byte) = ⊥
IsSparing what = Unit {0}

abbrev pub SparesAll : List Played → Type 0
SparesAll played = AllByRecursion (λ it. IsSparing it.what) played

-- Where no line replaces a byte, both sides agree on all bytes of the line when a run ends, and one
-- that ends where nothing moved any more has nothing left to move.
pub record RunsAgree : Type 0 where
  pub agree : (steps : List Step) (played : List Played) (last : State) (end : End)
      → Runs steps played last end → SparesAll played
      → Agrees (rows_of last.near) (rows_of last.far)
  pub done : (steps : List Step) (played : List Played) (last : State)
      → Runs steps played last Drained → SparesAll played → IsDone last
