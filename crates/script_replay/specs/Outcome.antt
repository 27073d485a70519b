-- What a replay answers: the last state of a run of its script, as both records and the link store
-- tell it. Messages are Wayland's; runs and the link are this project's own.
use Rattle.std.specs.Prelude.{◌≡◌, ℕ, max, List, Option, Some, None}
use Rattle.std.specs.Option.{MatchOption}
use Rattle.wp_outside.specs.Lines as outside
use Rattle.proxy_trail.specs.declared.pair.PairEnd.{PairEnd}
use Rattle.proxy_trail.specs.declared.pair.PairRecord.{PairRecord}
use Rattle.script_lang.specs.declared.steps.Step.{Step}
use Rattle.side_model.specs.Trails.{TrailState}
use Rattle.pair_runs.specs.RunLaws.{fault_by}
use Rattle.pair_runs.specs.Runs.{Played, End, Runs}
use Rattle.pair_runs.specs.Sides.{SideState, side_seen, rows_of, last_number}
use Rattle.pair_runs.specs.States.{State, Fault, Lanes, connections}
use Rattle.script_replay.specs.Playing.{kept_end}
use Rattle.script_replay.specs.Telling.{lanes_of, Tells, TellsFailed}
use Rattle.script_replay.specs.declared.run.Run.{Run}

-- a side is what its records show, where so many words are loaded of a copy that is out
pub record ShownBy (trail : TrailState) (it : SideState) : Type 0 where
  pub half : ℕ
  pub is : it ≡ side_seen half trail

-- what waits on the line waits on the last connection
abbrev pub WaitsOn : Option Lanes → outside.Line → Type 0
WaitsOn lanes line = MatchOption lanes (Unit {0}) (λ it. it ≡ lanes_of line)

-- the store tells what both sides have written and read, but for a piece refused at a fault
abbrev pub Told : Option Fault → State → (ℕ → outside.Line) → Type 0
Told None s line = Tells (rows_of s.near) (rows_of s.far) line
Told (Some it) s line = TellsFailed it s line

-- A run of the script ends in a state, which the records, the number of connections and the store
-- show.
pub record Replays (steps : List Step) (line : ℕ → outside.Line) (it : PairRecord) : Type 0 where
  pub played : List Played
  pub last : State
  pub end : End
  pub runs : Runs steps played last end
  pub end_is : it.end ≡ kept_end end
  pub near : ShownBy it.near last.near
  pub far : ShownBy it.far last.far
  pub connections_are : it.connections ≡ connections last
  pub waits : WaitsOn last.line (line it.connections)
  pub told : Told (fault_by end) last line

-- ---- what is kept of a run

-- the number of the last connection of a proxy with its records
abbrev pub last_in : TrailState → ℕ
last_in trail = last_number trail.book.trail.lines.rows

-- the records of both sides and of both peers, and how the run ended
pub record IsKept (run : Run) (ended : PairEnd) (it : PairRecord) : Type 0 where
  pub near : it.near ≡ run.near.trail
  pub far : it.far ≡ run.far.trail
  pub application : it.application ≡ run.near.peer.received
  pub compositor : it.compositor ≡ run.far.peer.received
  pub connections_are : it.connections ≡ max (last_in run.near.trail) (last_in run.far.trail)
  pub end_is : it.end ≡ ended
