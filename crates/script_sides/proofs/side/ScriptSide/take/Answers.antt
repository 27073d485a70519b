use Rattle.std.proofs.Common.{◌≡◌, ℕ, false, Option, Some, None, Ok, subst}
use Rattle.std.proofs.lemmas.Result.{err_from_is_err_and}
use Rattle.pair_runs.specs.Taking.{Cut}
use Rattle.pair_runs.specs.Sides.{fed}
use Rattle.pair_runs.specs.Working.{Works}
use Rattle.script_sides.specs.Sided.{taker_of}
use Rattle.script_sides.specs.Takings.{TakesNothing, TakesNext}
use Rattle.script_sides.proofs.Takes.{takes_more}
use Rattle.script_sides.proofs.Wires.{one_fails, one_less, none_more}
use Rattle.script_sides.proofs.side.ScriptSide.take.Goals as goal

pub returns-in_err-cost-clause-takes : goal.returns-in_err-cost-clause-takes
returns-in_err-cost-clause-takes c =
    let p = err_from_is_err_and c.from_residual.result c.from_residual.ensures.1 in
    rw (p.1, p.2)
    (λ n. c.items.invariant.onward (taker_of c.take_next.new.self) (Some c.in_err-cost.field-0.0)
    (one_fails c.items.left (taker_of c.items.self) (taker_of c.take_next.new.self) c.in_err-cost.field-0.0 (c.in_err-cost.ensures.takes n)))

pub items-smaller : goal.items-smaller
items-smaller c =
    let one : TakesNext c.items.left (taker_of c.items.self) (taker_of c.take_next.new.self) (Ok (Some c.in-Some.cost)) =
    subst (λ (told : Option ℕ). TakesNext c.items.left (taker_of c.items.self) (taker_of c.take_next.new.self) (Ok told)) c.in-Some.is c.in_ok-cost.ensures.takes in
    one_less c.items.left (taker_of c.items.self) (taker_of c.take_next.new.self)
    (λ (it : Cut). (c.in-Some.cost ≡ it.cost) × Works false (fed it.item (taker_of c.items.self).side) (taker_of c.take_next.new.self).side) one

pub items-preserved : goal.items-preserved
items-preserved c =
    let one : TakesNext c.items.left (taker_of c.items.self) (taker_of c.take_next.new.self) (Ok (Some c.in-Some.cost)) =
    subst (λ (told : Option ℕ). TakesNext c.items.left (taker_of c.items.self) (taker_of c.take_next.new.self) (Ok told)) c.in-Some.is c.in_ok-cost.ensures.takes in
    takes_more c.args.most c.args.self.now c.items.left c.items.self c.items.took c.in-Some.cost c.take_next.new.self c.items.invariant one c.in_ok-cost.ensures.leaves

pub returns-in-None-clause-takes : goal.returns-in-None-clause-takes
returns-in-None-clause-takes c =
    let none : TakesNothing c.items.left (taker_of c.items.self) (taker_of c.take_next.new.self) =
    subst (λ (told : Option ℕ). TakesNext c.items.left (taker_of c.items.self) (taker_of c.take_next.new.self) (Ok told)) c.in-None.is c.in_ok-cost.ensures.takes in
    c.items.invariant.onward (taker_of c.take_next.new.self) None (none_more c.items.left (taker_of c.items.self) (taker_of c.take_next.new.self) none)
