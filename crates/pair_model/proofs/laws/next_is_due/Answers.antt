use Rattle.pair_model.proofs.Due.{next_due, no_fault_comes}
use Rattle.pair_model.proofs.laws.next_is_due.Goals as goal

pub returns-clause-link : goal.returns-clause-link
returns-clause-link c = next_due

pub returns-clause-grammar : goal.returns-clause-grammar
returns-clause-grammar c = no_fault_comes
