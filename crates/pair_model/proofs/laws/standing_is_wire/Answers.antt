use Rattle.pair_model.proofs.Standing.{made_wire}
use Rattle.pair_model.proofs.Seeing.{stands_wire, stopped_wire}
use Rattle.pair_model.proofs.Heards.{stopped_refused}
use Rattle.pair_model.proofs.laws.standing_is_wire.Goals as goal

pub returns-clause-stands : goal.returns-clause-stands
returns-clause-stands c = stands_wire

pub returns-clause-stopped : goal.returns-clause-stopped
returns-clause-stopped c = stopped_wire

pub returns-clause-refused : goal.returns-clause-refused
returns-clause-refused c = stopped_refused

pub returns-clause-made : goal.returns-clause-made
returns-clause-made c = made_wire
