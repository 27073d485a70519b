-- The state of a run: both sides, what waits on the wires of their peers, and what waits on the
-- line between them, if one is up; all of it is this project's own.
use Rattle.std.specs.Prelude.{ℕ, max, List, [], Option, None, option_map}
use Rattle.wp_outside.specs.declared.kinds.Direction.{Direction}
use Rattle.wp_outside.specs.declared.kinds.Direction.TheVariants.{Up, Down}
use Rattle.wp_outside.specs.declared.kinds.Side.{Side}
use Rattle.wp_outside.specs.declared.kinds.Side.TheVariants.{Near, Far}
use Rattle.half_model.specs.declared.items.PeerIn.{PeerIn}
use Rattle.side_model.specs.declared.fault.ProxyFault.{ProxyFault}
use Rattle.pair_runs.specs.Sides.{SideState, first_side, rows_of, last_number}

-- the bytes that wait on the line, in each direction
pub record Lanes : Type 0 where
  pub up : List ℕ
  pub down : List ℕ

pub record State : Type 0 where
  pub near : SideState
  pub far : SideState
  -- what the application and the compositor have put on their wires and no side has taken
  pub near_wire : List PeerIn
  pub far_wire : List PeerIn
  -- the line of the connection that is up
  pub line : Option Lanes

abbrev pub no_lanes : Lanes
no_lanes = record { up = []; down = [] }

-- at first
abbrev pub first_state : State
first_state = record {
  near = first_side Near;
  far = first_side Far;
  near_wire = [];
  far_wire = [];
  line = None;
}

-- a side of the pair has failed
pub record Fault : Type 0 where
  pub side : Side
  pub fault : ProxyFault

-- ---- by side and direction

abbrev pub side_at : Side → State → SideState
side_at Near s = s.near
side_at Far s = s.far

abbrev pub with_side : Side → SideState → State → State
with_side Near it s = record s { near = it }
with_side Far it s = record s { far = it }

abbrev pub wire_at : Side → State → List PeerIn
wire_at Near s = s.near_wire
wire_at Far s = s.far_wire

abbrev pub with_wire : Side → List PeerIn → State → State
with_wire Near wire s = record s { near_wire = wire }
with_wire Far wire s = record s { far_wire = wire }

abbrev pub lane_at : Direction → Lanes → List ℕ
lane_at Up lanes = lanes.up
lane_at Down lanes = lanes.down

abbrev pub with_lane : Direction → List ℕ → Lanes → Lanes
with_lane Up bytes lanes = record lanes { up = bytes }
with_lane Down bytes lanes = record lanes { down = bytes }

-- what waits on the line in a direction changed, if a connection is up
abbrev pub on_lane : Direction → (List ℕ → List ℕ) → State → State
on_lane dir change s = record s {
  line = option_map (λ lanes. with_lane dir (change (lane_at dir lanes)) lanes) s.line;
}

-- the side that writes in a direction, and the one that reads
abbrev pub writer : Direction → Side
writer Up = Near
writer Down = Far

abbrev pub reader : Direction → Side
reader Up = Far
reader Down = Near

-- the greatest number of a connection
abbrev pub connections : State → ℕ
connections s = max (last_number (rows_of s.near)) (last_number (rows_of s.far))
