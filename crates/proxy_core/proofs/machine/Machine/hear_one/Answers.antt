-- A frame that is taken out is heard, or refused.
use Rattle.std.proofs.Common.{Ok, Err}
use Rattle.proxy_core.specs.Hearing.{IsOut}
use Rattle.proxy_core.proofs.Hearings.{one_heard}
use Rattle.proxy_core.proofs.machine.Machine.hear_one.Goals as goal

pub returns-in-Ok-clause-did : goal.returns-in-Ok-clause-did
returns-in-Ok-clause-did c =
    let out : IsOut c.in-Ok-Some.came c.args.self.now c.take_frame.new.self = rw c.in-Ok-Some.field-0-is at c.in-Ok-Some.ensures in
    one_heard (Ok c.in-Ok.field-0) c.in-Ok-Some.came c.args.self.now c.take_frame.new.self c.hear_frame.new.self out c.in-Ok.ensures

pub returns-in-Err-hear_frame-clause-did : goal.returns-in-Err-hear_frame-clause-did
returns-in-Err-hear_frame-clause-did c =
    let out : IsOut c.in-Ok-Some.came c.args.self.now c.take_frame.new.self = rw c.in-Ok-Some.field-0-is at c.in-Ok-Some.ensures in
    one_heard (Err c.in-Err-hear_frame.fault) c.in-Ok-Some.came c.args.self.now c.take_frame.new.self c.hear_frame.new.self out c.in-Err-hear_frame.ensures
