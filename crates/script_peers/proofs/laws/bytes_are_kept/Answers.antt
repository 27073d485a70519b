use Rattle.script_peers.proofs.Behind.{bytes_are_kept}
use Rattle.script_peers.proofs.laws.bytes_are_kept.Goals as goal

pub returns : goal.returns
returns c = bytes_are_kept
