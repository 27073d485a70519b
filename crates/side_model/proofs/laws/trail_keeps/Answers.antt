use Rattle.side_model.proofs.TrailParts.{keeps_at_first}
use Rattle.side_model.proofs.TrailKeeps.{calls_keep, steps_keep, sends_keep, lends_keep}
use Rattle.side_model.proofs.laws.trail_keeps.Goals as goal

pub returns-clause-first : goal.returns-clause-first
returns-clause-first c = keeps_at_first

pub returns-clause-calls : goal.returns-clause-calls
returns-clause-calls c = calls_keep

pub returns-clause-steps : goal.returns-clause-steps
returns-clause-steps c = steps_keep

pub returns-clause-sends : goal.returns-clause-sends
returns-clause-sends c = sends_keep

pub returns-clause-lends : goal.returns-clause-lends
returns-clause-lends c = lends_keep
