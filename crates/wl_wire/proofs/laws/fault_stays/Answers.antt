use Rattle.wl_wire.proofs.CuttingLaws.{cut-fault-stays}
use Rattle.wl_wire.proofs.FrontLemmas.{first-fault-stays}
use Rattle.wl_wire.proofs.laws.fault_stays.Goals as goal

pub returns-clause-front : goal.returns-clause-front
returns-clause-front c = first-fault-stays

pub returns-clause-cut : goal.returns-clause-cut
returns-clause-cut c = cut-fault-stays
