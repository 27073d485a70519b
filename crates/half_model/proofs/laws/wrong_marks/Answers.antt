use Rattle.half_model.proofs.Strict.{wrong_taking, wrong_hearing, wrong_making, one_group}
use Rattle.half_model.proofs.laws.wrong_marks.Goals as goal

pub returns-clause-taking : goal.returns-clause-taking
returns-clause-taking c = wrong_taking

pub returns-clause-hearing : goal.returns-clause-hearing
returns-clause-hearing c = wrong_hearing

pub returns-clause-making : goal.returns-clause-making
returns-clause-making c = wrong_making

pub returns-clause-group : goal.returns-clause-group
returns-clause-group c = one_group
