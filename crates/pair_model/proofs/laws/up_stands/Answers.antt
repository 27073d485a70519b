use Rattle.pair_model.proofs.Heards.{begins_wire}
use Rattle.pair_model.proofs.Standing.{up_stands}
use Rattle.pair_model.proofs.laws.up_stands.Goals as goal

pub returns-clause-begins : goal.returns-clause-begins
returns-clause-begins c = begins_wire

pub returns-clause-up : goal.returns-clause-up
returns-clause-up c = up_stands
