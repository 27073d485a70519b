use Rattle.pair_model.proofs.Cases.{same_by_cases}
use Rattle.pair_model.proofs.laws.same_by_cases.Goals as goal

pub returns : goal.returns
returns c = same_by_cases
