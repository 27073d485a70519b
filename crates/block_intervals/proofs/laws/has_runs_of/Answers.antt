use Rattle.block_intervals.proofs.LawProofs.{has_runs_of_law}
use Rattle.block_intervals.proofs.EndLemmas.{runs_of_lie_below}
use Rattle.block_intervals.proofs.laws.has_runs_of.Goals as goal

pub returns-clause-unique : goal.returns-clause-unique
returns-clause-unique c = has_runs_of_law

pub returns-clause-below : goal.returns-clause-below
returns-clause-below c = runs_of_lie_below
