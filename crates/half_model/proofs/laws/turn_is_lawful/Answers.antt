use Rattle.half_model.proofs.Turns.{turn_is_lawful}
use Rattle.half_model.proofs.laws.turn_is_lawful.Goals as goal

pub returns : goal.returns
returns c = turn_is_lawful
