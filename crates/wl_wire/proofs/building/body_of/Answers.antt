use Rattle.std.proofs.Common.{◌++◌, sym, ap, ◌∙◌, arith}
use Rattle.std.proofs.lemmas.List.{take_all}
use Rattle.wl_wire.specs.Building.{arg_bytes, args_bytes}
use Rattle.wl_wire.proofs.BuildingLemmas.{args_bytes-next, arg_bytes-bound}
use Rattle.wl_wire.proofs.building.body_of.Goals as goal

pub put_arg-requires : goal.put_arg-requires
put_arg-requires c =
    omega (arith, c.requires, arg_bytes-bound c.args.args.now c.items.arg-index c.arg-item.result c.items-test.true c.arg-item.is)

pub items-preserved : goal.items-preserved
items-preserved c =
    c.in_ok-put_arg.ensures ∙ ap (λ body. body ++ arg_bytes c.arg-item.result) c.items.invariant
    ∙ sym (args_bytes-next c.args.args.now c.items.arg-index c.arg-item.result c.items-test.true c.arg-item.is)

pub returns : goal.returns
returns c = c.items.invariant ∙ ap args_bytes (take_all c.items.arg-index c.args.args.now c.items-test.false)
