use Rattle.pair_report.proofs.MeantLaws.{flows_are_meant}
use Rattle.pair_report.proofs.laws.files_and_pipes_are_meant.Goals as goal

pub returns-clause-pipes : goal.returns-clause-pipes
returns-clause-pipes c = flows_are_meant
