use Rattle.wl_wire.proofs.ArgRoundTrip.{built-is-read}
use Rattle.wl_wire.proofs.arg_laws.built_is_read.Goals as goal

pub returns : goal.returns
returns c = built-is-read
