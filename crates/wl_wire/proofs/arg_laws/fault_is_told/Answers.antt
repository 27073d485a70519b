use Rattle.wl_wire.proofs.ArgFaultLaws.{fault_told}
use Rattle.wl_wire.proofs.arg_laws.fault_is_told.Goals as goal

pub returns : goal.returns
returns c = fault_told
