-- What the calls of a side's connection answer; this project's own.
use Rattle.std.specs.Prelude.{◌≡◌, ◌≢◌, ◌<◌, ◌≤◌, ℕ, true, List, length, Result, Ok, Err}
use Rattle.half_model.specs.declared.causes.Limit.TheVariants.{Connections}
use Rattle.pair_model.specs.Quiet.{NoFront}
use Rattle.pair_runs.specs.Linking.{with_line, read}
use Rattle.pair_runs.specs.Moves.{LineInPart}
use Rattle.pair_runs.specs.Sides.{SideState, TOKEN, rows_of, last_number, link_record}
use Rattle.pair_runs.specs.Whys.{RefusesLine}
use Rattle.pair_runs.specs.WorkLaws.{FailsInPart}
use Rattle.pair_runs.specs.Working.{Works}
use Rattle.script_sides.specs.Answering.{Stops}
use Rattle.script_sides.specs.Ready.{IsReady}
use Rattle.script_sides.specs.Sided.{SideRun, is_up}
use Rattle.side_model.specs.Calls.{MOST_CONNECTIONS}
use Rattle.side_model.specs.declared.fault.ProxyFault.{ProxyFault}
use Rattle.side_model.specs.declared.fault.ProxyFault.TheVariants.{Memory, Limit}

-- a connection has its line, or in part at a fault
abbrev pub LinesUp : ℕ → SideState → SideState → Result Unit ProxyFault → Type 0
LinesUp connection a b (Ok done) = b ≡ with_line connection a
LinesUp connection a b (Err fault) =
    fault ≢ Memory → LineInPart connection a b × RefusesLine connection fault a.book.trail

-- there is none above the greatest, and that is the one cause of its limit
abbrev pub UpIsLimited : ℕ → Result Unit ProxyFault → Type 0
UpIsLimited connection (Ok done) = connection ≤ MOST_CONNECTIONS
UpIsLimited connection (Err fault) = fault ≡ Limit Connections → MOST_CONNECTIONS < connection

-- a side goes on with the connection up, or has failed
pub record IsUp (old new : SideRun) : Type 0 where
  pub ready : IsReady new
  pub side : new.peer.side ≡ old.peer.side
  pub up : is_up new ≡ true

abbrev pub LeavesUp : Result Unit ProxyFault → SideRun → SideRun → Type 0
LeavesUp (Ok done) old new = IsUp old new
LeavesUp (Err fault) old new = fault ≢ Memory → Stops old new fault

-- a piece that comes is read, and what it has is heard
abbrev pub Hears : List ℕ → SideState → SideState → Result Unit ProxyFault → Type 0
Hears piece a b (Ok done) = Works true (read piece a) b
Hears piece a b (Err fault) =
    fault ≢ Memory → FailsInPart (length piece) fault a (read piece a) b

-- there is nothing to be sent
abbrev pub HasNoFront : SideState → Type 0
HasNoFront it = NoFront TOKEN (last_number (rows_of it)) (link_record it)
