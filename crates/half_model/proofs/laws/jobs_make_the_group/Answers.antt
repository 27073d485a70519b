use Rattle.half_model.proofs.JobLaws.{jobs_stay, group_is_lawful}
use Rattle.half_model.proofs.laws.jobs_make_the_group.Goals as goal

pub returns-clause-stay : goal.returns-clause-stay
returns-clause-stay c = jobs_stay

pub returns-clause-group : goal.returns-clause-group
returns-clause-group c = group_is_lawful
