-- A peer of a replay as plain data, and what its lines and the items that it is given change. The
-- language of scripts is this project's own.
use Rattle.std.specs.Prelude.{◌≡◌, ℕ, List, [], ◌++◌, if◌then◌else◌, ℤ}
use Rattle.wp_outside.specs.declared.kinds.Side.{Side}
use Rattle.pool_words.specs.Views.{PoolId, ReceiptState}
use Rattle.shm_pools.specs.Files.{FileState, after_settle}
use Rattle.half_model.specs.PeerState.{PeerState, no_peer, peer_took, peer_settled}
use Rattle.half_model.specs.declared.items.PeerIn.{PeerIn}
use Rattle.half_model.specs.declared.items.PeerOut.{PeerOut}
use Rattle.half_model.specs.declared.items.PeerOut.TheVariants as outputs
use Rattle.script_lang.specs.declared.steps.StepKind.{StepKind}
use Rattle.script_peers.specs.Owning.{Owned, owns_nothing, IsOwnReceipt}
use Rattle.script_peers.specs.Putting.{is_own, items_by, owned_after, with_changed}

pub record ScriptedPeer : Type 0 where
  pub side : Side
  pub own : Owned
  -- the items that its proxy has not taken
  pub wire : List PeerIn
  pub received : PeerState

abbrev pub first_peer : Side → ScriptedPeer
first_peer side = record { side = side; own = owns_nothing; wire = []; received = no_peer }

abbrev pub with_items : List PeerIn → ScriptedPeer → ScriptedPeer
with_items more peer = record peer { wire = peer.wire ++ more }

abbrev pub did : PoolId → StepKind → ScriptedPeer → ScriptedPeer
did pool what peer = record peer {
  own = owned_after pool what peer.own;
  wire = peer.wire ++ items_by peer.own what;
}

-- the peer behind a line, of which another peer's does nothing; a new segment is of this pool
abbrev pub acted : PoolId → StepKind → ScriptedPeer → ScriptedPeer
acted pool what peer = if is_own peer.side what then did pool what peer else peer

-- a new segment is of a pool of its own
abbrev pub Acts : StepKind → ScriptedPeer → ScriptedPeer → Type 0
Acts what old new = (pool : PoolId) × (new ≡ acted pool what old)

-- a receipt is settled with the pen of its segment, and that is kept
abbrev pub settled_own : ℤ → ℕ → ReceiptState → ScriptedPeer → ScriptedPeer
settled_own number segment receipt peer = record peer {
  own = with_changed number (λ f. after_settle f segment receipt) peer.own;
  received = peer_settled number segment peer.received;
}

-- the peer with one more item that its proxy gave it
abbrev pub gave : PeerOut → ScriptedPeer → ScriptedPeer
gave (outputs.Receipt number segment receipt) peer = settled_own number segment receipt peer
gave item peer = record peer { received = peer_took item peer.received }

-- a receipt is of a file of the peer's own
abbrev pub IsForPeer : PeerOut → List FileState → Type 0
IsForPeer (outputs.Receipt number segment receipt) files =
    IsOwnReceipt number segment receipt files
IsForPeer item files = Unit {0}
