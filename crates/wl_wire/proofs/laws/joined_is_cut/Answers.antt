use Rattle.wl_wire.proofs.CuttingLaws.{joined-cuts}
use Rattle.wl_wire.proofs.laws.joined_is_cut.Goals as goal

pub returns : goal.returns
returns c = joined-cuts
