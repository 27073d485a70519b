-- One side of a replay as plain data: a proxy with its records, its peer, and the copy whose words
-- are being loaded; this project's own.
use Rattle.std.specs.Prelude.{ℕ, Bool, false, is_some, List, Option, Some, None}
use Rattle.wp_outside.specs.declared.kinds.Side.{Side}
use Rattle.pair_runs.specs.Sides.{SideState, TOKEN, side_seen}
use Rattle.pair_runs.specs.Taking.{Taker}
use Rattle.proxy_trail.specs.Kept.{lent_bytes}
use Rattle.script_peers.specs.Peers.{ScriptedPeer, first_peer}
use Rattle.script_sides.specs.Halves.{HalfState}
use Rattle.side_model.specs.Trails.{TrailState, no_records}

pub record SideRun : Type 0 where
  pub trail : TrailState
  pub peer : ScriptedPeer
  pub half : Option HalfState
  -- whether it was asked to close
  pub asked : Bool

-- at first
abbrev pub first_run : Side → SideRun
first_run side = record {
  trail = no_records side TOKEN;
  peer = first_peer side;
  half = None;
  asked = false;
}

-- how many words are loaded of the copy that is out
abbrev pub half_loaded : Option HalfState → ℕ
half_loaded None = 0
half_loaded (Some half) = half.loaded

-- the side as a run sees it, also with what waits on its peer's wire
abbrev pub state_of : SideRun → SideState
state_of it = side_seen (half_loaded it.half) it.trail

abbrev pub taker_of : SideRun → Taker
taker_of it = record { side = state_of it; wire = it.peer.wire }

-- whether a connection is up
abbrev pub is_up : SideRun → Bool
is_up it = is_some it.trail.now.live.here

-- the bytes that are to be written next, and for how many of them there is room in the records
abbrev pub lent_of : SideRun → List ℕ
lent_of it = lent_bytes it.trail

abbrev pub room_of : SideRun → ℕ
room_of it = it.trail.book.trail.lines.room
