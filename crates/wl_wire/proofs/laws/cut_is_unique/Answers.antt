use Rattle.wl_wire.proofs.CuttingLaws.{cut-agrees, cut-joins, cut-stops}
use Rattle.wl_wire.proofs.laws.cut_is_unique.Goals as goal

pub returns-clause-agrees : goal.returns-clause-agrees
returns-clause-agrees c = cut-agrees

pub returns-clause-joins : goal.returns-clause-joins
returns-clause-joins c = cut-joins

pub returns-clause-stops : goal.returns-clause-stops
returns-clause-stops c = cut-stops
