use Rattle.copy_laws.proofs.Giving.{gave_is_settled, more_is_settled, settled_has_stood}
use Rattle.copy_laws.proofs.laws.settled_has_stood.Goals as goal

pub returns-clause-gave : goal.returns-clause-gave
returns-clause-gave c = gave_is_settled

pub returns-clause-more : goal.returns-clause-more
returns-clause-more c = more_is_settled

pub returns-clause-stood : goal.returns-clause-stood
returns-clause-stood c = settled_has_stood
