use Rattle.script_replay.proofs.Answering.{begins_ready}
use Rattle.script_replay.proofs.run.Run.new.Goals as goal

pub returns-in-Ok-new-clause-ready : goal.returns-in-Ok-new-clause-ready
returns-in-Ok-new-clause-ready c = λ line empty.
    begins_ready c.in-Ok.near c.in-Ok-new.far c.in-Ok.ensures.first c.in-Ok-new.ensures.first c.in-Ok.ensures.ready c.in-Ok-new.ensures.ready line empty
