use Rattle.script_peers.proofs.Behind.{bytes_are_put}
use Rattle.script_peers.proofs.laws.bytes_are_put.Goals as goal

pub returns : goal.returns
returns c = bytes_are_put
