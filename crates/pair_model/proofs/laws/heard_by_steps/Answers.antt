use Rattle.pair_model.proofs.Heards.{heard_up, heard_sent, heard_fed, heard_read, heard_chosen, heard_made, heard_all, heard_stopped, heard_once}
use Rattle.pair_model.proofs.laws.heard_by_steps.Goals as goal

pub returns-clause-up : goal.returns-clause-up
returns-clause-up c = heard_up

pub returns-clause-sent : goal.returns-clause-sent
returns-clause-sent c = heard_sent

pub returns-clause-fed : goal.returns-clause-fed
returns-clause-fed c = heard_fed

pub returns-clause-read : goal.returns-clause-read
returns-clause-read c = heard_read

pub returns-clause-chosen : goal.returns-clause-chosen
returns-clause-chosen c = heard_chosen

pub returns-clause-made : goal.returns-clause-made
returns-clause-made c = heard_made

pub returns-clause-all : goal.returns-clause-all
returns-clause-all c = heard_all

pub returns-clause-stopped : goal.returns-clause-stopped
returns-clause-stopped c = heard_stopped

pub returns-clause-once : goal.returns-clause-once
returns-clause-once c = heard_once
