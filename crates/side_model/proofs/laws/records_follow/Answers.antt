use Rattle.side_model.proofs.FollowsOut.{follows_at_first}
use Rattle.side_model.proofs.FollowsAll.{follows_outside, follows_inside}
use Rattle.side_model.proofs.Stopping.{group_fits}
use Rattle.side_model.proofs.laws.records_follow.Goals as goal

pub returns-clause-first : goal.returns-clause-first
returns-clause-first c = follows_at_first

pub returns-clause-outside : goal.returns-clause-outside
returns-clause-outside c = follows_outside

pub returns-clause-inside : goal.returns-clause-inside
returns-clause-inside c = follows_inside

pub returns-clause-fits : goal.returns-clause-fits
returns-clause-fits c = group_fits
