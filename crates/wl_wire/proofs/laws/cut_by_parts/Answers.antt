use Rattle.wl_wire.proofs.CuttingLaws.{cut-message, cut-nothing, cut-goes_on, cut-appends}
use Rattle.wl_wire.proofs.laws.cut_by_parts.Goals as goal

pub returns-clause-message : goal.returns-clause-message
returns-clause-message c = cut-message

pub returns-clause-nothing : goal.returns-clause-nothing
returns-clause-nothing c = cut-nothing

pub returns-clause-goes_on : goal.returns-clause-goes_on
returns-clause-goes_on c = cut-goes_on

pub returns-clause-appends : goal.returns-clause-appends
returns-clause-appends c = cut-appends
