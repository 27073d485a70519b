use Rattle.script_peers.proofs.Behind.{stays_behind}
use Rattle.script_peers.proofs.laws.stays_behind.Goals as goal

pub returns : goal.returns
returns c = stays_behind
