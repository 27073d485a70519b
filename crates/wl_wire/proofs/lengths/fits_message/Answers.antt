use Rattle.std.proofs.Common.{◌≡◌, ◌+◌, ◌<◌, length, ap, arith}
use Rattle.std.proofs.lemmas.Bool.{false≢true}
use Rattle.wl_wire.specs.declared.message.TheConstants.{LONGEST_MESSAGE}
use Rattle.wl_wire.specs.Building.{arg_bytes, args_bytes}
use Rattle.wl_wire.proofs.BuildingLemmas.{arg_bytes-bound, front_bound, length_next}
use Rattle.wl_wire.proofs.lengths.fits_message.Goals as goal

pub returns-in-None : goal.returns-in-None
returns-in-None c =
    let one = arg_bytes-bound c.as_slice-arg-items.result.now c.items.arg-index c.arg-item.result c.items-test.true c.arg-item.is in
    let long : LONGEST_MESSAGE < length (arg_bytes c.arg-item.result) = c.in-None.ensures in
    let same : length (args_bytes c.as_slice-arg-items.result.now) ≡ length (args_bytes c.args.args.now) = ap (λ args. length (args_bytes args)) c.as_slice-arg-items.ensures in
    (λ h. absurd (false≢true h), λ h. absurd (omega (arith, one, long, same, h)))

pub returns-then-size-gt-LONGEST_MESSAGE : goal.returns-then-size-gt-LONGEST_MESSAGE
returns-then-size-gt-LONGEST_MESSAGE c =
    let next = length_next c.as_slice-arg-items.result.now c.items.arg-index c.arg-item.result c.items-test.true c.arg-item.is in
    let front = front_bound c.as_slice-arg-items.result.now (c.items.arg-index + 1) in
    let same : length (args_bytes c.as_slice-arg-items.result.now) ≡ length (args_bytes c.args.args.now) = ap (λ args. length (args_bytes args)) c.as_slice-arg-items.ensures in
    (λ h. absurd (false≢true h), λ h. absurd (omega (arith, next, front, same, c.items.invariant.0, c.in-Some.ensures.0, c.if-size-gt-LONGEST_MESSAGE.true, h)))

pub items-preserved : goal.items-preserved
items-preserved c =
    let next = length_next c.as_slice-arg-items.result.now c.items.arg-index c.arg-item.result c.items-test.true c.arg-item.is in
    (omega (arith, next, c.items.invariant.0, c.in-Some.ensures.0), omega (arith, c.if-size-gt-LONGEST_MESSAGE.false))
