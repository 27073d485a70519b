use Rattle.std.proofs.Common.{◌≡◌, take}
use Rattle.script_peers.specs.Peers.{with_items}
use Rattle.script_peers.specs.Putting.{handle_items}
use Rattle.script_peers.proofs.peer.ScriptPeer.put_handles.Given as goal

-- the handles of the numbers before this one are on the wire
abbrev pub invariant-loop-number : goal.invariant-loop-number
invariant-loop-number l = l.self ≡ with_items (handle_items l.initial.self.own (take l.number-index l.numbers)) l.initial.self
