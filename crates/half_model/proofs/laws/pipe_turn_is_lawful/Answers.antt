use Rattle.half_model.proofs.PipeLaws.{pipe_turn_is_lawful}
use Rattle.half_model.proofs.laws.pipe_turn_is_lawful.Goals as goal

pub returns : goal.returns
returns c = pipe_turn_is_lawful
