use Rattle.copy_laws.proofs.Giving.{gave_is_copy, all_are_given}
use Rattle.copy_laws.proofs.laws.gave_is_copy.Goals as goal

pub returns-clause-gave : goal.returns-clause-gave
returns-clause-gave c = gave_is_copy

pub returns-clause-all : goal.returns-clause-all
returns-clause-all c = all_are_given
