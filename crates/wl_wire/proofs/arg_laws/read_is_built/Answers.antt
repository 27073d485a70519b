use Rattle.wl_wire.proofs.ArgPadding.{read-is-built}
use Rattle.wl_wire.proofs.arg_laws.read_is_built.Goals as goal

pub returns : goal.returns
returns c = read-is-built
