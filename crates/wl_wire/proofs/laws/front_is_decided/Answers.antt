use Rattle.wl_wire.proofs.CuttingLaws.{first-waits, first-faults, first-gives}
use Rattle.wl_wire.proofs.laws.front_is_decided.Goals as goal

pub returns-clause-waits : goal.returns-clause-waits
returns-clause-waits c = first-waits

pub returns-clause-faults : goal.returns-clause-faults
returns-clause-faults c = first-faults

pub returns-clause-gives : goal.returns-clause-gives
returns-clause-gives c = first-gives
