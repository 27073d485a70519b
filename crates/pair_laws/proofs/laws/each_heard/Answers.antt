use Rattle.pair_laws.proofs.Auditing.{each_heard}
use Rattle.pair_laws.proofs.laws.each_heard.Goals as goal

pub returns : goal.returns
returns c = each_heard
