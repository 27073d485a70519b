use Rattle.waypipe_run.proofs.HeadLemmas.{replays_hold, trials_hold}
use Rattle.waypipe_run.proofs.laws.replays_hold.Goals as goal

pub returns-clause-replays : goal.returns-clause-replays
returns-clause-replays c = replays_hold

pub returns-clause-trials : goal.returns-clause-trials
returns-clause-trials c = trials_hold
