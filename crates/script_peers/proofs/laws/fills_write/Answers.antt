use Rattle.script_peers.proofs.Fills.{fills_write}
use Rattle.script_peers.proofs.laws.fills_write.Goals as goal

pub returns : goal.returns
returns c = fills_write
