use Rattle.block_intervals.proofs.LawProofs.{runs_are_unique_law}
use Rattle.block_intervals.proofs.laws.runs_are_unique.Goals as goal

pub returns : goal.returns
returns c = runs_are_unique_law
