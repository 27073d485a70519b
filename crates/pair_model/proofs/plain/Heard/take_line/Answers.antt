use Rattle.std.proofs.Common.{rules, arith, length, ap}
use Rattle.transfer_frames.specs.Front.{Takes}
use Rattle.pair_model.proofs.Hearing.{takes_some, heard_none}
use Rattle.pair_model.proofs.plain.Heard.take_line.Goals as goal

-- the bytes of the frame are left out
pub frames-smaller : goal.frames-smaller
frames-smaller c =
    let taken : Takes c.frames.rest.now c.in-Ok-Some.frame c.in-Ok-Some.length = search rules in
    omega (arith, takes_some c.frames.rest.now c.in-Ok-Some.frame c.in-Ok-Some.length taken, ap length c.split_at.ensures.back)

pub returns-in-Ok-None : goal.returns-in-Ok-None
returns-in-Ok-None c = heard_none c.frames.invariant (rw c.in-Ok-None.field-0-is at c.in-Ok-None.ensures).exact
