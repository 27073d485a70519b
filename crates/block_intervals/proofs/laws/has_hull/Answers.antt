use Rattle.block_intervals.proofs.LawProofs.{has_hull_law}
use Rattle.block_intervals.proofs.EndLemmas.{hull_lies_within}
use Rattle.block_intervals.proofs.laws.has_hull.Goals as goal

pub returns-clause-between : goal.returns-clause-between
returns-clause-between c = has_hull_law

pub returns-clause-within : goal.returns-clause-within
returns-clause-within c = hull_lies_within
