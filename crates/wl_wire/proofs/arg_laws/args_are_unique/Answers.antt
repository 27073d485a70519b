use Rattle.wl_wire.proofs.ArgRoundTrip.{good-is-spelled}
use Rattle.wl_wire.proofs.ArgUnique.{reads-in-one-way}
use Rattle.wl_wire.proofs.arg_laws.args_are_unique.Goals as goal

pub returns-clause-one_way : goal.returns-clause-one_way
returns-clause-one_way c = reads-in-one-way

pub returns-clause-good : goal.returns-clause-good
returns-clause-good c = good-is-spelled
