use Rattle.script_peers.proofs.Keeping.{receipts_are_own}
use Rattle.script_peers.proofs.laws.receipts_are_own.Goals as goal

pub returns : goal.returns
returns c = receipts_are_own
