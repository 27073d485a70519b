-- What one peer has received: messages of the Wayland protocol and handles, the files and pipes of
-- the other peer, and which receipts of its own files were settled. Files, pipes and receipts by
-- rids and numbers are this project's own.
use Rattle.std.specs.Prelude.{ℕ, ◌+◌, true, if◌then◌else◌, ℤ, List, [], ◌∷◌, ◌++◌, length}
use Rattle.std.specs.Prelude.{Option, Some, None, unwrap_or}
use Rattle.std.specs.Ordering.{int_cmp}
use Rattle.std.specs.BTreeMap.{insert_entry, is_at}
use Rattle.std.specs.Map.{lookup}
use Rattle.handle_table.specs.declared.handles.Handle.{Handle}
use Rattle.half_model.specs.declared.items.PeerOut.{PeerOut}
use Rattle.half_model.specs.declared.items.PeerOut.TheVariants as items
use Rattle.wp_outside.specs.declared.pipe_items.PipeItem.{PipeItem}
use Rattle.wp_outside.specs.declared.pipe_items.PipeItem.TheVariants as pipe_items
use Rattle.half_model.specs.Meaning.{Flow, no_flow}
use Rattle.mirror_pools.specs.Mirrors.{MirrorsState, sizes_of, with_opened, with_grown, with_filled}
use Rattle.mirror_pools.specs.Sizes.{open_cause, extend_cause, fill_cause}

pub record PeerState : Type 0 where
  pub messages : List (List ℕ)
  pub handles : List Handle
  -- by rising rids
  pub mirrors : MirrorsState
  pub pipes : List (ℤ × Flow)
  -- the file's number and the segment of each receipt that was settled
  pub settled : List (ℤ × ℕ)

abbrev pub no_peer : PeerState
no_peer = record { messages = []; handles = []; mirrors = []; pipes = []; settled = [] }

-- ---- mirrors

abbrev pub with_mirrors : MirrorsState → PeerState → PeerState
with_mirrors mirrors peer = record peer { mirrors = mirrors }

-- what a check of the sizes refuses changes nothing
abbrev pub if_good : {X : Type 0} → Option X → PeerState → PeerState → PeerState
if_good None next peer = next
if_good (Some cause) next peer = peer

-- ---- pipes

-- what comes behind the end of a pipe is none of its bytes
abbrev pub flow_with : PipeItem → Flow → Flow
flow_with (pipe_items.Bytes rid piece) flow =
    if flow.ended then flow else record flow { bytes = flow.bytes ++ piece }
flow_with (pipe_items.End rid) flow = record flow { ended = true }
flow_with (pipe_items.Shut rid) flow = record flow { shut = true }

abbrev pub rid_in : PipeItem → ℤ
rid_in (pipe_items.Bytes rid piece) = rid
rid_in (pipe_items.End rid) = rid
rid_in (pipe_items.Shut rid) = rid

abbrev pub flow_at : ℤ → List (ℤ × Flow) → Flow
flow_at rid pipes = unwrap_or (lookup (is_at (int_cmp rid)) pipes) no_flow

abbrev pub with_flow : PipeItem → List (ℤ × Flow) → List (ℤ × Flow)
with_flow item pipes =
    insert_entry int_cmp pipes (rid_in item) (flow_with item (flow_at (rid_in item) pipes))

-- ---- steps

-- the peer with one more item; a receipt is kept once it is settled
abbrev pub peer_took : PeerOut → PeerState → PeerState
peer_took (items.Bytes message) peer = record peer { messages = peer.messages ++ message ∷ [] }
peer_took (items.Handle handle) peer = record peer { handles = peer.handles ++ handle ∷ [] }
peer_took (items.Opened rid size) peer =
    if_good (open_cause rid size (sizes_of peer.mirrors))
    (with_mirrors (with_opened rid size peer.mirrors) peer) peer
peer_took (items.Grown rid size) peer =
    if_good (extend_cause rid size (sizes_of peer.mirrors))
    (with_mirrors (with_grown rid size peer.mirrors) peer) peer
peer_took (items.Filled rid start piece) peer =
    if_good (fill_cause rid (start + length piece) (sizes_of peer.mirrors))
    (with_mirrors (with_filled rid start piece peer.mirrors) peer) peer
peer_took (items.Pipe item) peer = record peer { pipes = with_flow item peer.pipes }
peer_took (items.Receipt number segment receipt) peer = peer

-- the peer with one more receipt settled
abbrev pub peer_settled : ℤ → ℕ → PeerState → PeerState
peer_settled number segment peer = record peer { settled = peer.settled ++ (number, segment) ∷ [] }

abbrev pub peer_took_all : List PeerOut → PeerState → PeerState
peer_took_all [] peer = peer
peer_took_all (item ∷ rest) peer = peer_took_all rest (peer_took item peer)
