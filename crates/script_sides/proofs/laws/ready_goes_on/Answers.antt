use Rattle.script_sides.proofs.Sounds.{ready_goes_on}
use Rattle.script_sides.proofs.laws.ready_goes_on.Goals as goal

pub returns : goal.returns
returns c = ready_goes_on
