use Rattle.half_model.proofs.Carrying.{given_is_sent, all_is_given}
use Rattle.half_model.proofs.laws.given_is_sent.Goals as goal

pub returns-clause-first : goal.returns-clause-first
returns-clause-first c = given_is_sent

pub returns-clause-all : goal.returns-clause-all
returns-clause-all c = all_is_given
