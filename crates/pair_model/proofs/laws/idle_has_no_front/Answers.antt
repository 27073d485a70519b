use Rattle.pair_model.proofs.Idling.{chosen_idle, idle_no_front}
use Rattle.pair_model.proofs.laws.idle_has_no_front.Goals as goal

pub returns-clause-chosen : goal.returns-clause-chosen
returns-clause-chosen c = chosen_idle

pub returns-clause-front : goal.returns-clause-front
returns-clause-front c = idle_no_front
