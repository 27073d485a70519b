-- What a link store tells of the connections of a run, beside what the records of both sides keep
-- of them; the link is this project's own.
use Rattle.std.specs.Prelude.{◌≡◌, ◌≢◌, ℕ, ◌≤◌, ◌==◌, Bool, true, false, List, [], ◌++◌, length}
use Rattle.wp_outside.specs.declared.kinds.Side.{Side}
use Rattle.wp_outside.specs.declared.kinds.Side.TheVariants.{Near, Far}
use Rattle.wp_outside.specs.Lines as outside
use Rattle.pair_model.specs.Lines.{Line, written_on, read_on}
use Rattle.side_model.specs.Sound.{MOST_PIECE}
use Rattle.pair_runs.specs.Sides.{rows_of}
use Rattle.pair_runs.specs.States.{State, Lanes, Fault, side_at, connections}
use Rattle.pair_runs.specs.Whys.{RefusesMore}

-- the bytes that wait on a connection
abbrev pub lanes_of : outside.Line → Lanes
lanes_of line = record { up = line.up.waiting; down = line.down.waiting }

-- What went onto a lane is what one side has written there, and what came off it is what the other
-- one has read, with these bytes more.
pub record TellsLane (connection : ℕ) (writer reader : List Line) (more : List ℕ)
    (lane : outside.Lane) : Type 0 where
  pub pushed : lane.pushed ≡ written_on connection writer
  pub pulled : lane.pulled ≡ read_on connection reader ++ more

-- the bytes that a side refused, as they stand on the lane towards this side
abbrev pub refused_by : Side → Side → Bool → List ℕ → List ℕ
refused_by Near Near true piece = piece
refused_by Far Far true piece = piece
refused_by side whose is_last piece = []

-- of a connection both ways, with these bytes more
pub record TellsLine (connection : ℕ) (near far : List Line) (more_up more_down : List ℕ)
    (line : outside.Line) : Type 0 where
  pub up : TellsLane connection near far more_up line.up
  pub down : TellsLane connection far near more_down line.down

-- Each connection tells just what the lines of both sides have.
abbrev pub Tells : List Line → List Line → (ℕ → outside.Line) → Type 0
Tells near far line = (connection : ℕ) → TellsLine connection near far [] [] (line connection)

-- It does so but for bytes of the last connection that a side refused: these stand on the lane
-- towards that side.
abbrev pub TellsBut : Side → ℕ → List ℕ → List Line → List Line → (ℕ → outside.Line) → Type 0
TellsBut side last piece near far line =
    (connection : ℕ)
    → TellsLine connection near far (refused_by Far side (connection == last) piece)
    (refused_by Near side (connection == last) piece) (line connection)

-- A side that met a fault may have refused its last piece, but only for its bytes: they would have
-- made its records too heavy.
pub record TellsFailed (it : Fault) (s : State) (line : ℕ → outside.Line) : Type 0 where
  pub piece : List ℕ
  pub few : length piece ≤ MOST_PIECE
  pub because : piece ≢ []
      → RefusesMore (length piece) it.fault (side_at it.side s).book.trail
  pub tells : TellsBut it.side (connections s) piece (rows_of s.near) (rows_of s.far) line
