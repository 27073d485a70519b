use Rattle.std.proofs.Common.{◌≡◌, ◌≤◌, ◌+◌, ℕ, List, [], length, take, drop, map, slice_set, sym, ap, subst, ◌∙◌, arith}
use Rattle.std.proofs.Math.ListN.{length-set}
use Rattle.std.proofs.lemmas.Result.{err_from_is_err_and}
use Rattle.wl_wire.specs.ArgSights.{seen_arg}
use Rattle.wl_wire.proofs.ArgLists.{SoFar, so_far-next, so_far-fault, so_far-spells, nil-test, seen_next}
use Rattle.wl_wire.proofs.ArgShapes.{spells-fault}
use Rattle.wl_wire.proofs.ArgValuesLemmas.{args-in}
use Rattle.wl_wire.proofs.scanning.scan.Goals as goal

pub returns-in_err-size : goal.returns-in_err-size
returns-in_err-size c =
    let p = err_from_is_err_and c.from_residual.result c.from_residual.ensures.1 in
    rw (p.1, p.2) (so_far-fault c.args.sig.now.slots (drop 8 c.args.m.now) c.slots.i c.slots.rest.now (map seen_arg (take c.slots.i c.slots.views)) c.slot-slot.result c.in_err-size.field-0.0
    c.slot-slot.ensures c.slots.invariant.0 (sym c.in_err-size.ensures.exact))

pub slots-preserved : goal.slots-preserved
slots-preserved c =
    let P : List ℕ → Type 0 = λ rest. SoFar c.args.sig.now.slots (drop 8 c.args.m.now) (c.slots.i + 1) rest (map seen_arg (take (c.slots.i + 1) (slice_set c.slots.views c.slots.i c.arg_view.result))) in (
      subst P (sym c.split_at-in-slots.ensures.back)
          (so_far-next c.args.sig.now.slots (drop 8 c.args.m.now) c.slots.i c.slots.rest.now (map seen_arg (take c.slots.i c.slots.views)) c.slot-slot.result c.in_ok-size.size (seen_arg c.arg_view.result)
          (map seen_arg (take (c.slots.i + 1) (slice_set c.slots.views c.slots.i c.arg_view.result)))
          c.slot-slot.ensures c.slots.invariant.0 (sym c.in_ok-size.ensures.exact) c.arg_view.ensures
          (seen_next c.slots.views c.slots.i c.arg_view.result (omega (arith, c.slots.invariant.1, c.len-i-end.ensures.few)))),
      length-set c.slots.views c.slots.i c.arg_view.result ∙ c.slots.invariant.1,
    )

pub returns-then-is_empty : goal.returns-then-is_empty
returns-then-is_empty c =
    let empty : c.slots.rest.now ≡ [] = nil-test c.slots.rest.now (sym c.is_empty.ensures ∙ c.if-is_empty.true) in
    let done : length c.args.sig.now.slots ≤ c.slots.i = omega (arith, c.slots-test.false, c.len-i-end.ensures.count) in
    let spelled = so_far-spells c.args.sig.now.slots (drop 8 c.args.m.now) c.slots.i c.slots.rest.now (map seen_arg (take c.slots.i c.slots.views)) done empty c.slots.invariant.0 in
    let all : c.slots.i ≡ c.len.result = omega (arith, c.slots-test.false, c.len-i-end.ensures.count, c.slots.auto.i-end, c.len.ensures.count) in (
      spells-fault c.args.sig.now.slots (drop 8 c.args.m.now) (map seen_arg (take c.slots.i c.slots.views)) spelled,
      ap (λ n. map seen_arg (take n c.slots.views)) (sym all) ∙ sym (args-in c.args.sig.now.slots (drop 8 c.args.m.now) (map seen_arg (take c.slots.i c.slots.views)) spelled),
    )
