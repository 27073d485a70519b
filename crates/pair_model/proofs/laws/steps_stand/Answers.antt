use Rattle.pair_model.proofs.Standing.{sent_stands, fed_stands, read_stands, chosen_stands, made_stands}
use Rattle.pair_model.proofs.laws.steps_stand.Goals as goal

pub returns-clause-sent : goal.returns-clause-sent
returns-clause-sent c = sent_stands

pub returns-clause-fed : goal.returns-clause-fed
returns-clause-fed c = fed_stands

pub returns-clause-read : goal.returns-clause-read
returns-clause-read c = read_stands

pub returns-clause-chosen : goal.returns-clause-chosen
returns-clause-chosen c = chosen_stands

pub returns-clause-made : goal.returns-clause-made
returns-clause-made c = made_stands
