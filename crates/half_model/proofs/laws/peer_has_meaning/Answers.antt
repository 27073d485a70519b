use Rattle.half_model.proofs.Peer.{peer_has_meaning}
use Rattle.half_model.proofs.laws.peer_has_meaning.Goals as goal

pub returns : goal.returns
returns c = peer_has_meaning
