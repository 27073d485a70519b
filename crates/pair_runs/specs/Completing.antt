-- That a run which ends where nothing moved any more has brought all that the peers put, unless a
-- side was asked to close before. Messages are Wayland's; runs are this project's own.
use Rattle.std.specs.Prelude.{◌≡◌, ◌≢◌, List, None}
use Rattle.std.specs.List.{AllByRecursion}
use Rattle.wl_objects.specs.Registry.{first_state, visible}
use Rattle.wl_wire.specs.Wire.{cut}
use Rattle.wp_outside.specs.declared.kinds.Side.{Side}
use Rattle.wp_outside.specs.declared.kinds.Side.TheVariants.{Near, Far}
use Rattle.script_lang.specs.Puts.{puts}
use Rattle.script_lang.specs.declared.steps.Step.{Step}
use Rattle.script_lang.specs.declared.steps.StepKind.{StepKind}
use Rattle.script_lang.specs.declared.steps.StepKind.TheVariants as line
use Rattle.pair_laws.specs.Passing.{passing_by}
use Rattle.pair_laws.specs.Received.{messages, received_by}
use Rattle.pair_runs.specs.Agreeing.{SparesAll}
use Rattle.pair_runs.specs.Kept.{one_side}
use Rattle.pair_runs.specs.Quiet.{IsDone}
use Rattle.pair_runs.specs.Runs.{Played, Drained, Runs}
use Rattle.pair_runs.specs.States.{State}

-- a line that doesn't ask this side to close
abbrev pub LeavesOpen : Side → StepKind → Type 0
LeavesOpen side (line.Close whose) = whose ≢ side
LeavesOpen side what = Unit {0}

-- no line of a script does
abbrev pub NeverAsked : Side → List Step → Type 0
NeverAsked side steps = AllByRecursion (λ it. LeavesOpen side it.what) steps

-- Nothing is left to move. A side that was never asked to close took each message that its peer put.
-- The compositor has received all that the near side took, and the application all that the registry
-- view shows of the far side's order.
pub record BringsAll (steps : List Step) (last : State) : Type 0 where
  pub done : IsDone last
  pub requests : NeverAsked Near steps → last.near.book.trail.taken ≡ cut (puts Near steps)
  pub events : NeverAsked Far steps → last.far.book.trail.taken ≡ cut (puts Far steps)
  pub up : messages (received_by Far (one_side last.far None) done.pair.other_law)
      ≡ last.near.book.trail.taken
  pub down : messages (received_by Near (one_side last.near None) done.pair.one_law)
      ≡ visible first_state (passing_by Far (one_side last.far None) done.pair.other_law)

-- So does each run that drains while no byte of the line is replaced.
abbrev pub DrainedBringsAll : Type 0
DrainedBringsAll = (steps : List Step) (played : List Played) (last : State)
    → Runs steps played last Drained → SparesAll played → BringsAll steps last
