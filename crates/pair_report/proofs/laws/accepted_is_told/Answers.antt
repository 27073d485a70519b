use Rattle.pair_report.proofs.Accepted.{accepted_is_told}
use Rattle.pair_report.proofs.laws.accepted_is_told.Goals as goal

pub returns : goal.returns
returns c = accepted_is_told
