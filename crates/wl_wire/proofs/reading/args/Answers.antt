use Rattle.std.proofs.Common.{List, drop, sym, ◌∙◌, subst}
use Rattle.wl_wire.specs.declared.arguments.Arg.{Arg}
use Rattle.wl_wire.specs.Arguments.{Spells}
use Rattle.wl_wire.proofs.ArgFaultLaws.{values_spelled}
use Rattle.wl_wire.proofs.reading.args.Goals as goal

pub returns-clause-found : goal.returns-clause-found
returns-clause-found c =
    let P : List Arg → Type 0 = λ list. Spells c.args.sig.now.slots (drop 8 c.args.m.now) list in
    subst P (sym (c.in_ok-copies.ensures.value ∙ c.in_ok-views.ensures.1)) (values_spelled c.args.sig.now.slots (drop 8 c.args.m.now) c.in_ok-views.ensures.0)
