-- Each message at the front is counted once, and has eight bytes or more.
use Rattle.std.proofs.Common.{◌≡◌, ℕ, List, Ok, None, Some, length, take, drop, suc, ap, arith, length-drop}
use Rattle.wl_wire.specs.Wire.{first, cut}
use Rattle.wl_wire.proofs.CuttingLaws.{cut-front, cut-waits, cut-fault}
use Rattle.proxy_core.proofs.counting.count_messages.Goals as goal

pub messages-preserved : goal.messages-preserved
messages-preserved c =
    let rest = c.messages.rest.now in
    let size = c.in-Ok-Some.size in
    let told : first rest ≡ Ok (Some (take size rest)) = rw c.in-Ok-Some.field-0-is at c.in-Ok-Some.ensures.exact in
    let one : length (cut rest) ≡ suc (length (cut (drop size rest))) = ap length (cut-front rest size told) in
    let back : length (cut c.split_at.result.1.now) ≡ length (cut (drop size rest)) = ap (λ (r : List ℕ). length (cut r)) c.split_at.ensures.back in
    let least = rw c.in-Ok-Some.field-0-is at c.in-Ok-Some.ensures.least in
    let there = rw c.in-Ok-Some.field-0-is at c.in-Ok-Some.ensures.there in
    record {
      all = omega (arith, c.messages.invariant.all, one, back);
      few = omega (arith, c.messages.invariant.few, ap length c.split_at.ensures.back, length-drop size rest, least, there);
    }

pub returns-in-Ok-None : goal.returns-in-Ok-None
returns-in-Ok-None c =
    let told : first c.messages.rest.now ≡ Ok None = rw c.in-Ok-None.field-0-is at c.in-Ok-None.ensures.exact in
    omega (arith, c.messages.invariant.all, ap length (cut-waits c.messages.rest.now told))

pub returns-in-Err : goal.returns-in-Err
returns-in-Err c = omega (arith, c.messages.invariant.all, ap length (cut-fault c.messages.rest.now c.in-Err.field-0 c.in-Err.ensures.exact))
