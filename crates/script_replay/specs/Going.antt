-- What a call of a replay comes to: moves of a run, and what both sides keep behind them, or the
-- fault that stopped it; this project's own.
use Rattle.std.specs.Prelude.{◌≡◌, ℕ, true, List, [], ◌∷◌, Option, Some, None, Result, Ok, Err}
use Rattle.wp_outside.specs.declared.kinds.Side.{Side}
use Rattle.wp_outside.specs.Lines as outside
use Rattle.side_model.specs.declared.fault.ProxyFault.{ProxyFault}
use Rattle.side_model.specs.declared.fault.ProxyFault.TheVariants as faults
use Rattle.pair_runs.specs.Moves.{Move, MovesAll}
use Rattle.pair_runs.specs.Sides.{rows_of}
use Rattle.pair_runs.specs.States.{State, Fault, connections}
use Rattle.script_replay.specs.Standing.{state_of, IsReady}
use Rattle.script_replay.specs.Telling.{TellsFailed}
use Rattle.script_replay.specs.declared.failures.Failure.{Failure}
use Rattle.script_replay.specs.declared.failures.Stop.{Stop}
use Rattle.script_replay.specs.declared.failures.Stop.TheVariants as stops
use Rattle.script_replay.specs.declared.run.Run.{Run}

-- ---- why a call stops

abbrev pub stop_by : Side → ProxyFault → Stop
stop_by side faults.Memory = stops.Memory
stop_by side fault = stops.Failed (record { side = side; fault = fault })

-- a failure as a run tells it
abbrev pub fault_in : Failure → Fault
fault_in it = record { side = it.side; fault = it.fault }

-- a fact of the fault that a call met, if it met one, where memory did not run out
abbrev pub IfStops : {X : Type 0} → Result X Stop → (Option Fault → Type 0) → Type 0
IfStops (Ok done) P = P None
IfStops (Err (stops.Failed it)) P = P (Some (fault_in it))
IfStops (Err stops.Memory) P = Unit {0}

-- ---- what is kept

-- a side has failed: the store tells what was written and read, and the connection that is up, if
-- one is, is the last one
pub record HasStopped (it : Fault) (run : Run) (line : ℕ → outside.Line) : Type 0 where
  pub tells : TellsFailed it (state_of run line) line
  pub last : run.up ≡ true → run.last ≡ connections (state_of run line)

-- the replay may go on, or a side has failed
abbrev pub Stays : Option Fault → Run → (ℕ → outside.Line) → Type 0
Stays None run line = IsReady run line
Stays (Some it) run line = HasStopped it run line

-- ---- what a call does

pub record Went (Did : State → State → Option Fault → Type 0) (old new : Run)
    (before after : ℕ → outside.Line) (stop : Option Fault) : Type 0 where
  pub did : Did (state_of old before) (state_of new after) stop
  pub stays : Stays stop new after

-- where the replay may go on, this was done
abbrev pub GoesBy : (State → State → Option Fault → Type 0) → Run → Run → (ℕ → outside.Line)
    → (ℕ → outside.Line) → Option Fault → Type 0
GoesBy Did old new before after stop = IsReady old before → Went Did old new before after stop

-- these moves were made
abbrev pub Goes : List Move → Run → Run → (ℕ → outside.Line) → (ℕ → outside.Line) → Option Fault
    → Type 0
Goes moves old new before after stop = GoesBy (MovesAll moves) old new before after stop

-- moves that leave the link alone
abbrev pub GoesAside : List Move → Run → Run → Option Fault → Type 0
GoesAside moves old new stop = (line : ℕ → outside.Line) → Goes moves old new line line stop
