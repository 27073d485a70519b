use Rattle.std.proofs.Common.{w32}
use Rattle.std.proofs.lemmas.Int.{to_z-of_z}
use Rattle.std.proofs.lemmas.Result.{on_ok_weaker}
use Rattle.script_peers.specs.Owning.{filled}
use Rattle.script_peers.specs.Peers.{ScriptedPeer}
use Rattle.script_peers.proofs.PeerLemmas.{files_changed}
use Rattle.script_peers.proofs.peer.ScriptPeer.fill_file.Goals as goal

pub returns : goal.returns
returns c =
    let inside : ScriptedPeer = record {
      side = c.self.inside.side;
      own = record { files = c.self.inside.files; pipes = c.self.inside.pipes.keys };
      wire = c.self.inside.wire;
      received = c.self.inside.received;
    } in
    on_ok_weaker c.fill.result
    (λ is. files_changed inside c.args.self.now c.fill.new.self _ c.args.number (filled c.args.first c.args.count c.args.value) c.self.view_is
    (to_z-of_z w32 c.args.number c.ranges.number) is)
    c.fill.ensures
