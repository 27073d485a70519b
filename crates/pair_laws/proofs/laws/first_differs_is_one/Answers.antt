use Rattle.pair_laws.proofs.Differences.{differs_refutes, one_differs}
use Rattle.pair_laws.proofs.laws.first_differs_is_one.Goals as goal

pub returns-clause-refutes : goal.returns-clause-refutes
returns-clause-refutes c = differs_refutes

pub returns-clause-one : goal.returns-clause-one
returns-clause-one c = one_differs
