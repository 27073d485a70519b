-- How a proxy gives its peer one item after another; this project's own.
use Rattle.std.specs.Prelude.{◌≡◌, ℕ, ◌+◌, Bool, true, false, [], length, Some, None}
use Rattle.half_model.specs.declared.items.PeerOut.{PeerOut}
use Rattle.pair_runs.specs.Working.{Works}
use Rattle.script_peers.specs.Peers.{gave}
use Rattle.script_sides.specs.Sided.{SideRun, state_of, is_up}
use Rattle.script_sides.specs.Ready.{IsSound}
use Rattle.side_model.specs.Events.{Gave}
use Rattle.side_model.specs.Shows.{next_item}
use Rattle.side_model.specs.Trails.{trail_step}

-- an item has left the proxy
abbrev pub less : SideRun → SideRun
less it = record it { trail = trail_step Gave it.trail }

-- and its peer has it
abbrev pub given : PeerOut → SideRun → SideRun
given item it = record it { trail = trail_step Gave it.trail; peer = gave item it.peer }

-- the next item is given, if there is one
abbrev pub GivesNext : Bool → SideRun → SideRun → Type 0
GivesNext true old new =
    (item : PeerOut) × (next_item old.trail.now.live ≡ Some item) × (new ≡ given item old)
GivesNext false old new = (next_item old.trail.now.live ≡ None) × (new ≡ less old)

-- how many items are to be given
abbrev pub to_give : SideRun → ℕ
to_give it = length it.trail.now.live.items + length it.trail.now.live.receipts

-- some items were given
pub record Gives (old new : SideRun) : Type 0 where
  pub sound : IsSound new
  pub works : Works true (state_of old) (state_of new)
  pub side : new.peer.side ≡ old.peer.side
  pub wire : new.peer.wire ≡ old.peer.wire
  pub up : is_up new ≡ is_up old
  pub none : old.trail.now.live.items ≡ [] → new.trail.now.live.items ≡ []
  pub silent : old.trail.now.live.items ≡ [] → state_of new ≡ state_of old
